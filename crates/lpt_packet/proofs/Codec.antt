-- A packet's fields, its spelling and the reader's tests agree.
use Rattle.std.proofs.Common.{◌≡◌, ◌∙◌, ap, sym, ℕ, ◌+◌, ◌-◌, ◌*◌, ◌/◌, ◌%◌, ◌<◌, ◌==◌, Bool, true, false, if◌then◌else◌, List, [], ◌∷◌, ◌++◌, length, take, drop, refl, arith, get_or, length-append}
use Rattle.std.proofs.lemmas.List.{drop_all, drop_more, get_or-append-add}
use Rattle.std.proofs.Math.Seq.{take-append_seam, get_or-append_seam}
use Rattle.std.proofs.lemmas.Bool.Decides.{nat_tests}
use Rattle.lpt_packet.specs.Packets.{Fields, spelling, fields_at, header, packet_type, kind_of}
use Rattle.lpt_packet.specs.Numbers.{be, word_at, IsOctets}
use Rattle.lpt_packet.specs.Checksums.{checksum}
use Rattle.lpt_packet.specs.Ranges.{InRange}
use Rattle.lpt_packet.proofs.Registers.{checksum-fits}
use Rattle.lpt_packet.specs.declared.packet.PacketKind.{PacketKind}
use Rattle.lpt_packet.specs.declared.packet.PacketKind.TheVariants.{Tm, Tc}

-- ---- numbers in two octets

-- two octets are the spelling of their number
pub word_cells : (x y : ℕ) → x < 256 → y < 256 → be (256 * x + y) 2 ≡ x ∷ y ∷ []
word_cells x y p q =
    let high : (256 * x + y) / 256 % 256 ≡ x = omega arith in
    let low : (256 * x + y) % 256 ≡ y = omega arith in
    ap (λ h. h ∷ (256 * x + y) % 256 ∷ []) high ∙ ap (λ l. x ∷ l ∷ []) low

-- two octets that spell a number stand for it
pub word_of_be : (n : ℕ) (rest : List ℕ) → n < 65536 → word_at (be n 2 ++ rest) 0 ≡ n
word_of_be n rest h = omega arith

-- the last two octets are the spelling of their number
pub drop-last_word : (b : List ℕ) (n : ℕ) → IsOctets b → length b ≡ n + 2 → drop n b ≡ be (word_at b n) 2
drop-last_word b n o h =
    let one : drop n b ≡ get_or b n 0 ∷ drop (n + 1) b = drop_more b n 0 (omega arith) in
    let two : drop (n + 1) b ≡ get_or b (n + 1) 0 ∷ drop (n + 1 + 1) b = drop_more b (n + 1) 0 (omega arith) in
    let three : drop (n + 1 + 1) b ≡ [] = drop_all (n + 1 + 1) b (omega arith) in
    one ∙ ap (λ t. get_or b n 0 ∷ t) (two ∙ ap (λ t. get_or b (n + 1) 0 ∷ t) three)
    ∙ sym (word_cells (get_or b n 0) (get_or b (n + 1) 0) (o n) (o (n + 1)))

-- ---- the spelling

pub length-spelling : (f : Fields) → length (spelling f) ≡ length f.octets + 8
unfolding spelling
length-spelling f = omega (arith, length-append f.octets (be (checksum (header f ++ f.octets)) 2))

-- what a header's first word says of the packet type
pub packet_type-kind_of : (w : ℕ) → packet_type (kind_of w) ≡ w / 4096 % 2
packet_type-kind_of w = go (w / 4096 % 2 == 1) refl where
  go : (t : Bool) → (w / 4096 % 2 == 1) ≡ t → packet_type (if t then Tc else Tm) ≡ w / 4096 % 2
  go true e = grind (arith, nat_tests)
  go false e = grind (arith, nat_tests)

pub kind_of-packet_type : (k : PacketKind) (w : ℕ) → w / 4096 % 2 ≡ packet_type k → kind_of w ≡ k
kind_of-packet_type Tm w e = rw e refl
kind_of-packet_type Tc w e = rw e refl

pub packet_type_small : (k : PacketKind) → packet_type k < 2
packet_type_small Tm = omega arith
packet_type_small Tc = omega arith

-- the words of a header, where they stand in the spelling
pub word_at-0 : (f : Fields) → InRange f.apid f.count f.octets → word_at (spelling f) 0 ≡ packet_type f.kind * 4096 + 2048 + f.apid
unfolding spelling
word_at-0 f r = omega (arith, packet_type_small f.kind)

pub word_at-2 : (f : Fields) → InRange f.apid f.count f.octets → word_at (spelling f) 2 ≡ 49152 + f.count
unfolding spelling
word_at-2 f r = omega arith

pub word_at-4 : (f : Fields) → InRange f.apid f.count f.octets → word_at (spelling f) 4 ≡ length f.octets + 1
unfolding spelling
word_at-4 f r = omega arith

-- the same with octets behind the spelling
pub word_at-4_before : (f : Fields) (rest : List ℕ) → InRange f.apid f.count f.octets → word_at (spelling f ++ rest) 4 ≡ length f.octets + 1
unfolding spelling
word_at-4_before f rest r = omega arith

-- the data field, where it stands in the spelling
pub octets_at : (f : Fields) → take (length (spelling f) - 8) (drop 6 (spelling f)) ≡ f.octets
unfolding spelling
octets_at f =
    let t = be (checksum (header f ++ f.octets)) 2 in
    let e : length (spelling f) - 8 ≡ length f.octets = omega (arith, length-spelling f) in
    ap (λ n. take n (f.octets ++ t)) e ∙ take-append_seam f.octets t

-- the front of a spelling, and the checksum behind it
pub front_of : (f : Fields) → take (length (spelling f) - 2) (spelling f) ≡ header f ++ f.octets
unfolding spelling
front_of f =
    let front = header f ++ f.octets in
    let e : length (spelling f) - 2 ≡ length front = omega (arith, length-spelling f) in
    ap (λ n. take n (spelling f)) e ∙ take-append_seam front (be (checksum front) 2)

pub last_of : (f : Fields) → word_at (spelling f) (length (spelling f) - 2) ≡ checksum (header f ++ f.octets)
unfolding spelling
last_of f =
    let front = header f ++ f.octets in
    let c = checksum front in
    let e : length (spelling f) - 2 ≡ length front = omega (arith, length-spelling f) in
    let high : get_or (spelling f) (length front) 0 ≡ c / 256 % 256 = get_or-append_seam front (c / 256 % 256) (c % 256 ∷ []) 0 in
    let low : get_or (spelling f) (length front + 1) 0 ≡ c % 256 = get_or-append-add front (be c 2) 1 0 in
    let small : c < 65536 = checksum-fits front in
    ap (λ n. word_at (spelling f) n) e ∙ omega (arith, high, low)

-- fields that are alike one by one
pub same_fields : (k k' : PacketKind) (a a' c c' : ℕ) (o o' : List ℕ) → k ≡ k' → a ≡ a' → c ≡ c' → o ≡ o'
    → ◌≡◌ {A = Fields} (record { kind = k; apid = a; count = c; octets = o }) (record { kind = k'; apid = a'; count = c'; octets = o' })
same_fields k k' a a' c c' o o' p q r s = λ i. record { kind = p i; apid = q i; count = r i; octets = s i }

-- the fields at the places of a spelling are those that were spelled
pub fields_at-spelling : (f : Fields) → InRange f.apid f.count f.octets → fields_at (spelling f) ≡ f
fields_at-spelling f r =
    let first : word_at (spelling f) 0 ≡ packet_type f.kind * 4096 + 2048 + f.apid = word_at-0 f r in
    let second : word_at (spelling f) 2 ≡ 49152 + f.count = word_at-2 f r in
    let small : packet_type f.kind < 2 = packet_type_small f.kind in
    same_fields _ _ _ _ _ _ _ _
    (kind_of-packet_type f.kind (word_at (spelling f) 0) (omega arith))
    (omega arith)
    (omega arith)
    (octets_at f)
