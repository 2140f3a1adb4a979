-- A message of a layout: how long its packet is, what is read, and that what is written is read.
use Rattle.std.proofs.Common.{◌≡◌, ◌∙◌, ap, sym, subst, refl, ℕ, ◌+◌, ◌*◌, ◌/◌, ◌%◌, ◌≤◌, true, nat_le, ◌==◌, List, [], ◌∷◌, ◌++◌, length, take, drop, get_or, arith, Result, Ok, Err, IfOk, append_assoc, length-append, length-take, length-drop}
use Rattle.std.proofs.Math.Seq.{take-add}
use Rattle.std.proofs.lemmas.List.{take-append-drop}
use Rattle.std.proofs.lemmas.Bool.{eqb-true, leb-true, eq-eqb, le-leb}
use Rattle.lpt_packet.specs.declared.packet.PacketKind.{PacketKind}
use Rattle.lpt_packet.specs.declared.packet.PacketKind.TheVariants.{Tm, Tc}
use Rattle.lpt_packet.specs.Numbers.{be, IsOctets}
use Rattle.lpt_packet.specs.Packets.{Fields, fields_of}
use Rattle.lpt_pus.specs.declared.fault.PusFault.{PusFault}
use Rattle.lpt_pus.specs.Messages.{Gives}
use Rattle.lpt_pus.proofs.MessageLemmas.{tested-ok, tested-passed}
use Rattle.lpt_layout.specs.declared.layout.Layout.{Layout}
use Rattle.lpt_layout.specs.Layouts.{version_number, trailer, user_at, time_at, spare_at, body_at}
use Rattle.lpt_layout.specs.Messages.{Said, HeadFits, field_of, packet_of, IsMessage, said_at, is_kind, message_verdict}
use Rattle.lpt_layout.specs.Numbers.{octets_of, number_at}
use Rattle.lpt_layout.specs.Ranges.{IsWithin}
use Rattle.lpt_layout.specs.Writes.{octets_as}
use Rattle.lpt_layout.proofs.BareLemmas.{length-spelling_as}
use Rattle.lpt_layout.proofs.CutLemmas.{cut_front, drop_front, cut_second}
use Rattle.lpt_layout.proofs.NumberLemmas.{length-be, number_at-fits, be-number_at, number_at-be}

-- ---- the fronts of a data field

-- as far as the counter
abbrev one : Layout → Said → List ℕ
one l s =
    (16 * version_number l.version + s.flags) ∷ s.service ∷ s.subtype
    ∷ be s.counter (octets_of l.counter)

-- as far as the ID
abbrev two : Layout → Said → List ℕ
two l s = one l s ++ be s.user (octets_of l.user)

-- as far as the time
abbrev three : Layout → Said → List ℕ
three l s = two l s ++ s.time

-- the secondary header
abbrev four : Layout → Said → List ℕ
four l s = three l s ++ s.spare

-- how long they are
record AreLong (l : Layout) (s : Said) : Type 0 where
  one_is : length (one l s) ≡ user_at l
  two_is : length (two l s) ≡ time_at l
  three_is : length (three l s) ≡ spare_at l
  four_is : length (four l s) ≡ body_at l

lengths : (l : Layout) (s : Said) → HeadFits l s → AreLong l s
lengths l s h =
    let counter = length-be l.counter s.counter in
    let user = length-be l.user s.user in
    let first : length (one l s) ≡ user_at l = omega (arith, counter) in
    let second : length (two l s) ≡ time_at l =
    omega (arith, user, length-append (one l s) (be s.user (octets_of l.user))) in
    let third : length (three l s) ≡ spare_at l =
    omega (arith, length-append (two l s) s.time) in
    record {
      one_is = first;
      two_is = second;
      three_is = third;
      four_is = omega (arith, length-append (three l s) s.spare);
    }

-- the data field is the secondary header and the body
pub field_of-four : (l : Layout) (s : Said) → field_of l s ≡ four l s ++ s.body
unfolding field_of
field_of-four l s = refl

-- the secondary header is as long as the layout says
pub length-field_of : (l : Layout) (s : Said)
    → HeadFits l s
    → length (field_of l s) ≡ body_at l + length s.body
length-field_of l s h =
    let long = lengths l s h in
    ap length (field_of-four l s) ∙ length-append (four l s) s.body
    ∙ ap (λ n. n + length s.body) long.four_is

-- the pieces of a data field, put behind other octets one by one
pub field_of-behind : (l : Layout) (s : Said) (old : List ℕ)
    → (((((old ++ ((16 * version_number l.version + s.flags) ∷ s.service ∷ s.subtype ∷ []))
    ++ be s.counter (octets_of l.counter)) ++ be s.user (octets_of l.user)) ++ s.time) ++ s.spare)
    ++ s.body ≡ old ++ field_of l s
unfolding field_of
field_of-behind l s old = simp append_assoc

-- how long a message's packet is
pub length-octets_as : (l : Layout) (kind : PacketKind) (s : Said)
    → HeadFits l s
    → length (octets_as l kind s) ≡ 6 + (body_at l + length s.body + trailer l.has_checksum)
length-octets_as l kind s h =
    length-spelling_as l.has_checksum (packet_of l kind s)
    ∙ ap (λ n. 6 + (n + trailer l.has_checksum)) (length-field_of l s h)

-- ---- what stands at the places of what was written

-- what stands at the places of a message's data field is the message
said_at-four : (l : Layout) (kind : PacketKind) (s : Said)
    → HeadFits l s
    → said_at l (fields_of kind s.apid s.count (four l s ++ s.body)) ≡ s
said_at-four l kind s h =
    let long = lengths l s h in
    let b : List ℕ = four l s ++ s.body in
    let wc : ℕ = octets_of l.counter in
    let wu : ℕ = octets_of l.user in
    let front : List ℕ = (16 * version_number l.version + s.flags) ∷ s.service ∷ s.subtype ∷ [] in
    let flags : (16 * version_number l.version + s.flags) % 16 ≡ s.flags = omega arith in
    let counter_at : take wc (drop 3 b) ≡ be s.counter wc =
    cut_front 3 wc (four l s) s.body (omega arith)
    ∙ cut_front 3 wc (three l s) s.spare (omega arith)
    ∙ cut_front 3 wc (two l s) s.time (omega arith)
    ∙ cut_second 3 wc front (be s.counter wc) (be s.user wu) refl (length-be l.counter s.counter) in
    let user_is : take wu (drop (user_at l) b) ≡ be s.user wu =
    cut_front (user_at l) wu (four l s) s.body (omega arith)
    ∙ cut_front (user_at l) wu (three l s) s.spare (omega arith)
    ∙ cut_second (user_at l) wu (one l s) (be s.user wu) s.time long.one_is
    (length-be l.user s.user) in
    let counter : number_at l.counter b 3 ≡ s.counter =
    number_at-be l.counter s.counter b 3 h.counter_fits counter_at in
    let user : number_at l.user b (user_at l) ≡ s.user =
    number_at-be l.user s.user b (user_at l) h.user_fits user_is in
    let time : take l.time (drop (time_at l) b) ≡ s.time =
    cut_front (time_at l) l.time (four l s) s.body (omega arith)
    ∙ cut_second (time_at l) l.time (two l s) s.time s.spare long.two_is h.time_fits in
    let spare : take l.spare (drop (spare_at l) b) ≡ s.spare =
    cut_second (spare_at l) l.spare (three l s) s.spare s.body long.three_is h.spare_fits in
    let body : drop (body_at l) b ≡ s.body =
    drop_front (body_at l) (four l s) s.body long.four_is in
    λ i. record s {
      flags = flags i;
      counter = counter i;
      user = user i;
      time = time i;
      spare = spare i;
      body = body i;
    }

said_at-packet_of : (l : Layout) (kind : PacketKind) (s : Said)
    → HeadFits l s
    → said_at l (packet_of l kind s) ≡ s
said_at-packet_of l kind s h =
    ap (λ b. said_at l (fields_of kind s.apid s.count b)) (field_of-four l s)
    ∙ said_at-four l kind s h

is_kind-refl : (kind : PacketKind) → is_kind kind kind ≡ true
is_kind-refl Tm = refl
is_kind-refl Tc = refl

is_kind-true : (kind other : PacketKind) → is_kind kind other ≡ true → other ≡ kind
is_kind-true Tm Tm e = refl
is_kind-true Tm Tc e = absurd cc
is_kind-true Tc Tm e = absurd cc
is_kind-true Tc Tc e = refl

-- a message's packet is read as it
pub message_verdict-packet_of : (l : Layout) (kind : PacketKind) (s : Said)
    → HeadFits l s
    → message_verdict l kind (packet_of l kind s) ≡ Ok s
unfolding message_verdict
message_verdict-packet_of l kind s h =
    let f : Fields = packet_of l kind s in
    let first : get_or f.octets 0 0 ≡ 16 * version_number l.version + s.flags =
    ap (λ b. get_or b 0 0) (field_of-four l s) in
    tested-passed (is_kind kind kind) (nat_le (body_at l) (length f.octets))
    (get_or f.octets 0 0 / 16 == version_number l.version) (said_at l f)
    (is_kind-refl kind)
    (le-leb (body_at l) (length f.octets) (omega (arith, length-field_of l s h)))
    (eq-eqb (get_or f.octets 0 0 / 16) (version_number l.version) (omega arith))
    ∙ ap Ok (said_at-packet_of l kind s h)

-- what is related to a packet is read from it
pub message_verdict-again : (l : Layout) (kind : PacketKind) (f : Fields) (s : Said)
    → IsMessage l kind f s
    → message_verdict l kind f ≡ Ok s
message_verdict-again l kind f s h =
    ap (message_verdict l kind) h.spelled ∙ message_verdict-packet_of l kind s h.fits

-- ---- what is read

-- three octets, one by one
three_cells : (b : List ℕ)
    → 3 ≤ length b
    → take 3 b ≡ get_or b 0 0 ∷ get_or b 1 0 ∷ get_or b 2 0 ∷ []
three_cells [] h = absurd (omega arith)
three_cells (x ∷ []) h = absurd (omega arith)
three_cells (x ∷ y ∷ []) h = absurd (omega arith)
three_cells (x ∷ y ∷ z ∷ rest) h = refl

-- a data field that is long enough is spelled by what stands at its places
cells : (l : Layout) (apid count : ℕ) (kind : PacketKind) (b : List ℕ)
    → IsOctets b
    → body_at l ≤ length b
    → get_or b 0 0 / 16 ≡ version_number l.version
    → b ≡ field_of l (said_at l (fields_of kind apid count b))
cells l apid count kind b o long version =
    let s : Said = said_at l (fields_of kind apid count b) in
    let wc : ℕ = octets_of l.counter in
    let wu : ℕ = octets_of l.user in
    let first : get_or b 0 0 ≡ 16 * version_number l.version + get_or b 0 0 % 16 = omega arith in
    let head : take 3 b ≡ (16 * version_number l.version + s.flags) ∷ s.service ∷ s.subtype ∷ [] =
    three_cells b (omega arith) ∙ ap (λ n. n ∷ get_or b 1 0 ∷ get_or b 2 0 ∷ []) first in
    let counter : take wc (drop 3 b) ≡ be s.counter wc =
    sym (be-number_at l.counter b 3 o (omega arith)) in
    let user : take wu (drop (user_at l) b) ≡ be s.user wu =
    sym (be-number_at l.user b (user_at l) o (omega arith)) in
    let ones : take (user_at l) b ≡ one l s = take-add 3 wc b ∙ (λ i. head i ++ counter i) in
    let twos : take (time_at l) b ≡ two l s =
    take-add (user_at l) wu b ∙ (λ i. ones i ++ user i) in
    let threes : take (spare_at l) b ≡ three l s =
    take-add (time_at l) l.time b ∙ ap (λ c. c ++ s.time) twos in
    let fours : take (body_at l) b ≡ four l s =
    take-add (spare_at l) l.spare b ∙ ap (λ c. c ++ s.spare) threes in
    sym (take-append-drop (body_at l) b) ∙ ap (λ c. c ++ s.body) fours ∙ sym (field_of-four l s)

-- what stands at a place is as long as the layout says
length-cut : (b : List ℕ) (i n : ℕ) → i + n ≤ length b → length (take n (drop i b)) ≡ n
length-cut b i n h = omega (arith, length-take n (drop i b), length-drop i b)

-- what stands at the places of a packet is what it is
IsMessage-said_at : (l : Layout) (kind : PacketKind) (f : Fields)
    → IsWithin f.apid f.count (length f.octets)
    → IsOctets f.octets
    → f.kind ≡ kind
    → body_at l ≤ length f.octets
    → get_or f.octets 0 0 / 16 ≡ version_number l.version
    → IsMessage l kind f (said_at l f)
IsMessage-said_at l kind f r o same long version = record {
  fits = record {
    ranges = record { apid_fits = r.apid_fits; count_fits = r.count_fits; flags_fit = omega arith };
    service_fits = o 1;
    subtype_fits = o 2;
    counter_fits = number_at-fits l.counter f.octets 3 o;
    user_fits = number_at-fits l.user f.octets (user_at l) o;
    time_fits = length-cut f.octets (time_at l) l.time (omega arith);
    spare_fits = length-cut f.octets (spare_at l) l.spare (omega arith);
  };
  spelled =
      ap (λ (k : PacketKind). fields_of k f.apid f.count f.octets) same
      ∙ ap (fields_of kind f.apid f.count) (cells l f.apid f.count kind f.octets o long version);
}

-- what is read from a packet is what it is
pub message_verdict-found : (l : Layout) (kind : PacketKind) (f : Fields) (s : Said)
    → IsWithin f.apid f.count (length f.octets)
    → IsOctets f.octets
    → message_verdict l kind f ≡ Ok s
    → IsMessage l kind f s
unfolding message_verdict
message_verdict-found l kind f s r o e =
    let passed = tested-ok (is_kind kind f.kind) (nat_le (body_at l) (length f.octets))
    (get_or f.octets 0 0 / 16 == version_number l.version) (said_at l f) s e in
    subst (IsMessage l kind f) (passed.3)
    (IsMessage-said_at l kind f r o (is_kind-true kind f.kind (passed.0))
    (leb-true (body_at l) (length f.octets) (passed.1))
    (eqb-true (get_or f.octets 0 0 / 16) (version_number l.version) (passed.2)))

-- the same of a reader's answer
pub found_by_verdict : {X : Type 0} (view : X → Said) (result : Result X PusFault)
    → (l : Layout) (kind : PacketKind) (f : Fields)
    → IsWithin f.apid f.count (length f.octets)
    → IsOctets f.octets
    → Gives view result (message_verdict l kind f)
    → IfOk result (λ x. IsMessage l kind f (view x))
found_by_verdict view (Ok x) l kind f r o e = message_verdict-found l kind f (view x) r o e
found_by_verdict view (Err fault) l kind f r o e = tt
