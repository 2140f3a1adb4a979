-- Octets of a stream that are read behind those that are held.
use Rattle.std.proofs.Common.{◌≡◌, ◌⊎◌, ◌∙◌, ap, sym, subst, inl, inr, ℕ, zero, suc, ◌+◌, ◌-◌, ◌<◌, ◌≤◌, ◌==◌, min, Bool, true, false, if◌then◌else◌, refl, List, [], ◌∷◌, ◌++◌, length, take, drop, Option, Ok, Err, arith, append_assoc, append-nil, length-append, length-drop, take_all}
use Rattle.std.specs.Io.KnownBytes.{Consumes, IsAtEnd}
use Rattle.std.proofs.KnownBytes.{Consumes-nil, Consumes-trans}
use Rattle.std.proofs.lemmas.Bool.Decides.{nat_tests}
use Rattle.std.proofs.Math.Seq.{paste, take-append-add}
use Rattle.std.proofs.lemmas.List.{drop-take, length-take, length-take-le, take-append-le, take-take, take_min}
use Rattle.std.proofs.lemmas.List.Edits.{take-paste}
use Rattle.lpt_packet.specs.Numbers.{word_at}
use Rattle.lpt_text.specs.declared.fault.StreamFault.{StreamFault}
use Rattle.lpt_text.specs.declared.fault.StreamFault.TheVariants as faults
use Rattle.lpt_stream.specs.declared.buffer.PacketBuffer.{PacketBuffer}
use Rattle.lpt_stream.specs.declared.found.Found.{Found}
use Rattle.lpt_stream.specs.declared.piece_kind.PieceKind.{PieceKind}
use Rattle.lpt_stream.specs.declared.piece_kind.PieceKind.TheVariants.{Whole}
use Rattle.lpt_stream.specs.Buffers.{cut_of, octets_held, is_in_step, is_ended, found_piece, IsInFront, IsUnsettled, Adds, Goes, IsAsked, IsOpenAt, Fills, FindsPiece, FindsPassing}
use Rattle.lpt_stream.specs.Pieces.{lookahead, begins_by, kind_by, len_by, stays_judged, piece_by, waits_by}
use Rattle.lpt_stream.proofs.ByLemmas.{cut_stays_by, cut_waits, exact, packet_stays_by, piece_stays_by, judged_stays_by, nothing_shows, unframed_begins_by}

-- nothing was read by what changes nothing of what is held
pub goes-same : (b new : PacketBuffer) (a : Option (List ℕ))
    → octets_held new ≡ octets_held b
    → cut_of new ≡ cut_of b
    → is_in_step new ≡ is_in_step b
    → is_ended new ≡ is_ended b
    → Goes b new a a []
goes-same b new a same by step end = record {
  added = record {
    consumed = Consumes-nil a;
    behind = same ∙ sym (append-nil (octets_held b));
    step = step;
    cut = by;
  };
  stays = λ e. (end ∙ e, refl);
  at_end = λ h e. h (sym end ∙ e);
}

-- what is read after what was read
pub adds-more : (old mid new : PacketBuffer) (a b c : Option (List ℕ)) (read more : List ℕ)
    → Adds old mid a b read
    → Adds mid new b c more
    → Adds old new a c (read ++ more)
adds-more old mid new a b c read more p q = record {
  consumed = Consumes-trans a b c read more p.consumed q.consumed;
  behind = q.behind ∙ ap (λ x. x ++ more) p.behind ∙ append_assoc (octets_held old) read more;
  step = q.step ∙ p.step;
  cut = q.cut ∙ p.cut;
}

both : (e : Bool) → e ≡ true → e ≡ false → ⊥
both e h k = cc

-- what a read gives: octets, or the end
abbrev Gives : PacketBuffer → Option (List ℕ) → List ℕ → Type 0
Gives new after more =
    ((is_ended new ≡ false) × (0 < length more)) ⊎ ((is_ended new ≡ true) × IsAtEnd after)

end_given : (new : PacketBuffer) (after : Option (List ℕ)) (more : List ℕ)
    → Gives new after more
    → is_ended new ≡ true
    → IsAtEnd after
end_given new after more (inl h) e = absurd (both (is_ended new) e h.0)
end_given new after more (inr h) e = h.1

-- a read further
pub goes-more : (old mid new : PacketBuffer) (a b c : Option (List ℕ)) (read more : List ℕ)
    → is_ended mid ≡ false
    → Goes old mid a b read
    → Adds mid new b c more
    → Gives new c more
    → Goes old new a c (read ++ more)
goes-more old mid new a b c read more more_comes p q gives = record {
  added = adds-more old mid new a b c read more p.added q;
  stays = λ e. absurd (both (is_ended mid) (p.stays e).0 more_comes);
  at_end = λ h e. end_given new c more gives e;
}

-- the end is nearer, or so much as is looked at
pub nearer : (mid new : PacketBuffer) (b c : Option (List ℕ)) (more : List ℕ)
    → is_ended mid ≡ false
    → length (octets_held mid) < 131084
    → Adds mid new b c more
    → Gives new c more
    → (if is_ended new then 0 else 131085 - length (octets_held new))
    < (if is_ended mid then 0 else 131085 - length (octets_held mid))
nearer mid new b c more more_comes few q (inl h) =
    let size : length (octets_held new) ≡ length (octets_held mid) + length more =
    ap length q.behind ∙ length-append (octets_held mid) more in
    let some = h.1 in
    subst (λ e.
    (if e then 0 else 131085 - length (octets_held new)) <
    (if is_ended mid then 0 else 131085 - length (octets_held mid))) (sym h.0)
    (subst (λ e. 131085 - length (octets_held new)
    < (if e then 0 else 131085 - length (octets_held mid)))
    (sym more_comes)
    (omega (arith, few, size, some)))
nearer mid new b c more more_comes few q (inr h) =
    subst (λ e.
    (if e then 0 else 131085 - length (octets_held new)) <
    (if is_ended mid then 0 else 131085 - length (octets_held mid))) (sym h.0)
    (subst (λ e. 0 < (if e then 0 else 131085 - length (octets_held mid))) (sym more_comes)
    (omega (arith, few)))

-- it was asked for, since what was held waited
pub asked-more : (old mid : PacketBuffer) (a b : Option (List ℕ)) (read more : List ℕ)
    → Goes old mid a b read
    → IsUnsettled mid
    → length more ≤ 65536
    → IsAsked (cut_of old) (is_in_step old) (octets_held old) (read ++ more)
asked-more old mid a b read more goes h size = inr (
  read,
  more,
  refl,
  sym (λ i. waits_by (goes.added.cut i) (goes.added.step i) (goes.added.behind i)) ∙ h.waits,
  subst (λ x. length x < lookahead) goes.added.behind h.few,
  size,
)

-- what is judged stays so
pub judged-more : (mid new : PacketBuffer) (b c : Option (List ℕ)) (more : List ℕ) (framed : Bool)
    → Adds mid new b c more
    → IsUnsettled mid
    → framed ≡ stays_judged (cut_of mid) (octets_held mid)
    → framed ≡ true
    → begins_by (cut_of new) (is_in_step new) (take lookahead (octets_held new)) ≡ false
judged-more mid new b c more framed added h is e =
    (λ i. begins_by (added.cut i) (added.step i) (take lookahead (added.behind i)))
    ∙ judged_stays_by (cut_of mid) (is_in_step mid) (octets_held mid) more (sym is ∙ e) h.none h.few

-- a read that failed while what was held waited
pub open-more : (old mid new : PacketBuffer) (a b c : Option (List ℕ)) (read : List ℕ)
    → is_ended mid ≡ false
    → Goes old mid a b read
    → IsUnsettled mid
    → Adds mid new b c []
    → IsOpenAt old new a c
open-more old mid new a b c read more_comes p h q = (
  read ++ [],
  adds-more old mid new a b c read [] p.added q,
  λ e. absurd (both (is_ended mid) (p.stays e).0 more_comes),
  (λ i. waits_by (q.cut i) (q.step i) ((q.behind ∙ append-nil (octets_held mid)) i)) ∙ h.waits,
)

-- a read that failed, or for which memory ran out, ends the search
pub fill-fault : (fault : StreamFault) (old mid new : PacketBuffer) (a b c : Option (List ℕ))
    (read : List ℕ) (had told failed : Bool)
    → is_ended mid ≡ false
    → Goes old mid a b read
    → IsUnsettled mid
    → told ≡ had
    → Fills (Err fault) mid new b c told failed
    → FindsPiece (Err fault) old new a c had failed
fill-fault faults.Read old mid new a b c read had told failed more_comes p h same q =
    (open-more old mid new a b c read more_comes p h q.0, q.1)
fill-fault faults.Memory old mid new a b c read had told failed more_comes p h same q =
    (read ++ q.0, Consumes-trans a b c read q.0 p.added.consumed q.1, q.2 ∙ same)
fill-fault faults.Write old mid new a b c read had told failed more_comes p h same q = q

-- and a search that passes on
pub passing-fault : (fault : StreamFault) (old new : PacketBuffer) (a b : Option (List ℕ))
    (had failed : Bool)
    → FindsPiece (Err fault) old new a b had failed
    → FindsPassing (Err fault) old new a b had failed
passing-fault faults.Read old new a b had failed h = h
passing-fault faults.Memory old new a b had failed h = h
passing-fault faults.Write old new a b had failed h = absurd h

-- what a search gave, where that is something
pub finds_as : (given was : Option Found) (old new : PacketBuffer) (a b : Option (List ℕ))
    (had failed : Bool)
    → was ≡ given
    → FindsPassing (Ok was) old new a b had failed
    → FindsPassing (Ok given) old new a b had failed
finds_as given was old new a b had failed is h =
    subst (λ f. FindsPassing (Ok f) old new a b had failed) is h

-- what it has read then
pub passing-lost : (fault : StreamFault) (old new : PacketBuffer) (a b : Option (List ℕ))
    (had failed : Bool)
    → FindsPassing (Err fault) old new a b had failed
    → (lost : List ℕ) × Consumes a b lost
passing-lost faults.Read old new a b had failed h = (h.0.0, h.0.1.consumed)
passing-lost faults.Memory old new a b had failed h = (h.0, h.1)
passing-lost faults.Write old new a b had failed h = (h.0, h.1.added.consumed)

-- and what is held, where a read failed
pub passing-open : (fault : StreamFault) (old new : PacketBuffer) (a b : Option (List ℕ))
    (had failed : Bool)
    → fault ≡ faults.Read
    → FindsPassing (Err fault) old new a b had failed
    → IsOpenAt old new a b
passing-open faults.Read old new a b had failed is h = h.0
passing-open faults.Memory old new a b had failed is h = absurd cc
passing-open faults.Write old new a b had failed is h = absurd cc

-- ---- what is read in its place

-- what was moved to the front
pub moved : (s e : ℕ) (items : List ℕ)
    → s ≤ e
    → e ≤ length items
    → take (e - s) (paste items 0 (drop s items) (e - s)) ≡ drop s (take e items)
moved s e items h k =
    let none : 0 + (e - s) ≡ e - s = omega arith in
    let all : s + (e - s) ≡ e = omega arith in
    ap (λ (n : ℕ). take n (paste items 0 (drop s items) (e - s))) (sym none)
    ∙ take-paste items 0 (drop s items) (e - s) (omega arith) (omega (arith, length-drop s items))
    ∙ sym (drop-take s (e - s) items)
    ∙ ap (λ (n : ℕ). drop s (take n items)) all

-- what was read behind it
pub filled : (s e n len : ℕ) (items slice buf post more : List ℕ)
    → s ≡ 0
    → slice ≡ items
    → e ≤ length items
    → n ≤ length buf
    → e + n ≤ len
    → drop s (take (e + n) (take len ((take e slice ++ (buf ++ post)) ++ more)))
    ≡ drop s (take e items) ++ take n buf
filled s e n len items slice buf post more none same within some fits =
    let front = take e items in
    let size : length front ≡ e = length-take-le e items within in
    let joined : (take e slice ++ (buf ++ post)) ++ more ≡ front ++ (buf ++ (post ++ more))
    = ap (λ (o : List ℕ). (take e o ++ (buf ++ post)) ++ more) same
    ∙ append_assoc front (buf ++ post) more
    ∙ ap (λ (o : List ℕ). front ++ o) (append_assoc buf post more) in
    let all = (front ++ (buf ++ (post ++ more))) in
    let seen : take (e + n) (take len ((take e slice ++ (buf ++ post)) ++ more))
    ≡ front ++ take n buf
    = take-take (e + n) len _ fits
    ∙ ap (take (e + n)) joined
    ∙ ap (λ (k : ℕ). take (k + n) all) (sym size)
    ∙ take-append-add front (buf ++ (post ++ more)) n
    ∙ ap (λ (o : List ℕ). front ++ o) (take-append-le n buf (post ++ more) some) in
    ap (λ (k : ℕ). drop k (take (e + n) (take len ((take e slice ++ (buf ++ post)) ++ more)))) none
    ∙ seen
    ∙ ap (λ (k : ℕ). drop k (take e items) ++ take n buf) (sym none)

-- octets came, or it is the end
pub more_given : (n : ℕ) (buf : List ℕ) (after : Option (List ℕ))
    → n ≤ length buf
    → 0 < length buf
    → (n ≡ 0 → 0 < length buf → IsAtEnd after)
    → (((n == 0) ≡ false) × (0 < length (take n buf))) ⊎ (((n == 0) ≡ true) × IsAtEnd after)
more_given zero buf after within some end = inr (refl, end refl some)
more_given (suc n) buf after within some end =
    inl (grind (arith, nat_tests), omega (arith, length-take-le (suc n) buf within))

-- ---- what is in front

-- what is looked at is no longer than is held, nor than two packets
pub near_size : (b near : List ℕ) (n : ℕ)
    → near ≡ take lookahead b
    → n ≤ length near
    → (n ≤ length b) × (n ≤ lookahead)
near_size b near n is h =
    let size : length near ≡ min lookahead (length b) = ap length is ∙ length-take lookahead b in
    (omega (arith, size, h), omega (arith, size, h))

-- a packet
pub packet_settled : (p : PacketBuffer) (near : List ℕ) (n : ℕ)
    → near ≡ take lookahead (octets_held p)
    → 0 < length (octets_held p)
    → 0 < n
    → begins_by (cut_of p) (is_in_step p) near ≡ true
    → n ≡ 7 + word_at near 4
    → n ≤ length near
    → IsInFront p (record { kind = Whole; len = n })
packet_settled p near n is some least taken size within =
    let fits = near_size (octets_held p) near n is within in
    record {
      some = some;
      least = least;
      most = fits.1;
      within = fits.0;
      is = λ more e.
          packet_stays_by (cut_of p) (is_in_step p) (octets_held p) more n
          (ap (begins_by (cut_of p) (is_in_step p)) (sym is) ∙ taken)
          (size ∙ ap (λ x. 7 + word_at x 4) is) (subst (λ x. n ≤ length x) is within) fits.0;
    }

-- what doesn't wait, or is the last
pub other_settled : (p : PacketBuffer) (near : List ℕ) (k : PieceKind) (n : ℕ)
    → near ≡ take lookahead (octets_held p)
    → 0 < length (octets_held p)
    → 0 < n
    → (waits_by (cut_of p) (is_in_step p) near ≡ false) ⊎ (is_ended p ≡ true)
    → k ≡ kind_by (cut_of p) (is_in_step p) near
    → n ≡ len_by (cut_of p) (is_in_step p) near
    → n ≤ length near
    → IsInFront p (record { kind = k; len = n })
other_settled p near k n is some least known kind size within =
    let fits = near_size (octets_held p) near n is within in
    let kind_is = kind ∙ ap (kind_by (cut_of p) (is_in_step p)) is in
    let size_is = size ∙ ap (len_by (cut_of p) (is_in_step p)) is in
    record {
      some = some;
      least = least;
      most = fits.1;
      within = fits.0;
      is = λ more e. go more e kind_is size_is fits.0 known;
    } where
      go : (more : List ℕ)
          → (is_ended p ≡ true → more ≡ [])
          → k ≡ kind_by (cut_of p) (is_in_step p) (take lookahead (octets_held p))
          → n ≡ len_by (cut_of p) (is_in_step p) (take lookahead (octets_held p))
          → n ≤ length (octets_held p)
          → (waits_by (cut_of p) (is_in_step p) near ≡ false) ⊎ (is_ended p ≡ true)
          → piece_by (cut_of p) (is_in_step p) (octets_held p ++ more)
          ≡ found_piece p (record { kind = k; len = n })
      go more e kind_is size_is fits (inl h) =
          let known = sym (ap (waits_by (cut_of p) (is_in_step p)) is) ∙ h in
          piece_stays_by (cut_of p) (is_in_step p) (octets_held p) more k n known kind_is
          (exact (cut_of p) (is_in_step p) (take lookahead (octets_held p)) k n
          (cut_waits (cut_of p) (is_in_step p) (take lookahead (octets_held p)) known) kind_is
          size_is) fits
      go more e kind_is size_is fits (inr h) =
          cut_stays_by (cut_of p) (is_in_step p) (octets_held p) more k n (e h) kind_is size_is

-- where fewer are held than are looked at, those are all
pub all_held : (b near : List ℕ) → near ≡ take lookahead b → length near < 131084 → near ≡ b
all_held b near is few =
    let size : length near ≡ min lookahead (length b) = ap length is ∙ length-take lookahead b in
    is ∙ take_all lookahead b (omega (arith, size, few))

-- what is looked at waits
pub unsettled : (p : PacketBuffer) (near : List ℕ)
    → near ≡ take lookahead (octets_held p)
    → waits_by (cut_of p) (is_in_step p) near ≡ true
    → length near < 131084
    → begins_by (cut_of p) (is_in_step p) near ≡ false
    → is_ended p ≡ false
    → IsUnsettled p
unsettled p near is waiting few none more_comes =
    let all = all_held (octets_held p) near is few in
    record {
      waits = sym (ap (waits_by (cut_of p) (is_in_step p)) all) ∙ waiting;
      few = subst (λ x. length x < lookahead) all few;
      none = sym (ap (begins_by (cut_of p) (is_in_step p)) all) ∙ none;
      last = λ e. absurd (both (is_ended p) e more_comes);
    }

-- nothing is held
pub nothing_held : (p : PacketBuffer) (o : List ℕ) → o ≡ octets_held p → (length o == 0) ≡ true
    → IsUnsettled p
nothing_held p o is none =
    let empty : [] ≡ octets_held p = sym (no_octets o none) ∙ is in
    record {
      waits = sym (ap (waits_by (cut_of p) (is_in_step p)) empty)
          ∙ nothing_shows (cut_of p) (is_in_step p);
      few = subst (λ x. length x < lookahead) empty (omega arith);
      none = sym (ap (begins_by (cut_of p) (is_in_step p)) empty)
          ∙ unframed_begins_by (cut_of p) (is_in_step p) [] refl;
      last = λ e. sym empty;
    } where
      no_octets : (o : List ℕ) → (length o == 0) ≡ true → o ≡ []
      no_octets [] h = refl
      no_octets (x ∷ o) h = grind (arith, h)

-- some octets are held
pub some_held : (b o : List ℕ) → o ≡ b → false ≡ (length o == 0) → 0 < length b
some_held b o is h = subst (λ x. 0 < length x) is (grind (arith, h))

-- those that are looked at
pub near_held : (b o : List ℕ) (n : ℕ)
    → o ≡ b
    → n ≡ min lookahead (length o)
    → take n o ≡ take lookahead b
near_held b o n is size = ap (λ k. take k o) size ∙ take_min lookahead o ∙ ap (take lookahead) is
