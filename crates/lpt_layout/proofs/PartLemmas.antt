-- A body is the part that its verdict says, and each part's body is read as this part.
use Rattle.std.proofs.Common.{◌≡◌, ◌∙◌, ap, sym, subst, refl, ℕ, ◌+◌, ◌-◌, ◌≤◌, ◌==◌, nat_lt, Bool, true, false, if◌then◌else◌, List, [], ◌++◌, length, take, drop, arith, Result, Ok, Err, IfOk, length-append, length-drop}
use Rattle.std.proofs.Math.Seq.{take-add}
use Rattle.std.proofs.lemmas.Bool.{eqb-true, leb-true}
use Rattle.std.proofs.lemmas.Bool.Decides.{nat_tests}
use Rattle.std.proofs.lemmas.Grind.{common_steps}
use Rattle.std.proofs.lemmas.List.{take-append-drop}
use Rattle.lpt_packet.specs.Numbers.{be, IsOctets}
use Rattle.lpt_packet.proofs.Readings.{lt_false, not_lt, eq_false}
use Rattle.lpt_part.specs.declared.fault.PartFault.{PartFault}
use Rattle.lpt_part.specs.declared.fault.PartFault.TheVariants.{ShortPart, Zero, KindNumber, PartLength}
use Rattle.lpt_part.specs.declared.kind.Kind.{Kind}
use Rattle.lpt_part.specs.declared.kind.Kind.TheVariants.{First, Middle, Last}
use Rattle.lpt_part.specs.PartRanges.{LengthFits}
use Rattle.lpt_part.specs.Parts.{Piece, length_test}
use Rattle.lpt_part.proofs.BodyLemmas.{length_test-true}
use Rattle.lpt_layout.specs.declared.layout.PartLayout.{PartLayout}
use Rattle.lpt_layout.specs.declared.part.PartAs.{PartAs}
use Rattle.lpt_layout.specs.Numbers.{octets_of, number_at}
use Rattle.lpt_layout.specs.Parts.{PieceFits, piece, body_as, octets_at, is_numbered, IsPartAs, piece_at, part_verdict_as, Gives}
use Rattle.lpt_layout.proofs.CutLemmas.{cut_front, drop_front, cut_second}
use Rattle.lpt_layout.proofs.NumberLemmas.{length-be, number_at-fits, be-number_at, number_at-be}

-- ---- the verdict

-- the verdict over the answers of its tests
abbrev chain : Bool → Bool → Bool → Bool → Piece → Result Piece PartFault
chain short zero number len q =
    if short then Err ShortPart
    else if zero then Err Zero
    else if number then (if len then Ok q else Err PartLength)
    else Err KindNumber

-- the number that stands in a body
abbrev number_in : PartLayout → List ℕ → ℕ
number_in l b = number_at l.number b (octets_of l.id)

part_is : (l : PartLayout) (kind : Kind) (b : List ℕ) (p : ℕ)
    → part_verdict_as l kind b p
    ≡ chain (nat_lt (length b) (octets_at l)) (number_in l b == 0)
    (is_numbered kind (number_in l b))
    (length_test kind (number_in l b) (length b - octets_at l) p) (piece_at l kind b)
unfolding part_verdict_as
part_is l kind b p = refl

passed : (short zero number len : Bool) (q r : Piece)
    → chain short zero number len q ≡ Ok r
    → (short ≡ false) × (number ≡ true) × (len ≡ true) × (q ≡ r)
passed true zero number len q r h = absurd cc
passed false true number len q r h = absurd cc
passed false false false len q r h = absurd cc
passed false false true false q r h = absurd cc
passed false false true true q r h = (refl, refl, refl, cc)

-- a length that fits passes its test
length_test-fits : (kind : Kind) (n len p : ℕ)
    → LengthFits kind n len p
    → length_test kind n len p ≡ true
length_test-fits kind n len p h = grind (arith, nat_tests, common_steps)

-- no part is number 0
pub is_numbered-some : (kind : Kind) (n : ℕ) → is_numbered kind n ≡ true → 1 ≤ n
is_numbered-some First n h = let one : n ≡ 1 = eqb-true n 1 h in omega arith
is_numbered-some Middle n h = let two : 2 ≤ n = leb-true 2 n h in omega arith
is_numbered-some Last n h = let two : 2 ≤ n = leb-true 2 n h in omega arith

-- ---- what is written is read

-- what stands at the places of a part's body is the part
pub piece_at-body_as : (l : PartLayout) (q : Piece)
    → PieceFits l q
    → (piece_at l q.kind (body_as l q) ≡ q) × (length (body_as l q) ≡ octets_at l + length q.octets)
unfolding body_as
piece_at-body_as l q h =
    let wi : ℕ = octets_of l.id in
    let wn : ℕ = octets_of l.number in
    let front : List ℕ = be q.id wi ++ be q.number wn in
    let b : List ℕ = front ++ q.octets in
    let long : length front ≡ octets_at l =
    omega (
      arith,
      length-append (be q.id wi) (be q.number wn),
      length-be l.id q.id,
      length-be l.number q.number,
    ) in
    let id : number_at l.id b 0 ≡ q.id =
    number_at-be l.id q.id b 0 h.id_fits
    (cut_front 0 wi front q.octets (omega (arith, long))
    ∙ cut_second 0 wi [] (be q.id wi) (be q.number wn) refl (length-be l.id q.id)) in
    let number : number_at l.number b wi ≡ q.number =
    number_at-be l.number q.number b wi h.number_fits
    (cut_second wi wn (be q.id wi) (be q.number wn) q.octets (length-be l.id q.id)
    (length-be l.number q.number)) in
    let octets : drop (octets_at l) b ≡ q.octets = drop_front (octets_at l) front q.octets long in (
      (λ i. record q { id = id i; number = number i; octets = octets i }),
      omega (arith, length-append front q.octets),
    )

-- a part's body is read as this part
pub part_again : (l : PartLayout) (p : ℕ) (b : List ℕ) (q : Piece)
    → IsPartAs l p b q
    → part_verdict_as l q.kind b p ≡ Ok q
part_again l p b q h =
    let c : List ℕ = body_as l q in
    let both = piece_at-body_as l q h.fits in
    let at : piece_at l q.kind c ≡ q = both.0 in
    let long : length c ≡ octets_at l + length q.octets = both.1 in
    let number : number_in l c ≡ q.number = ap (λ (r : Piece). r.number) at in
    let len : length c - octets_at l ≡ length q.octets = omega arith in
    let some : 1 ≤ q.number = is_numbered-some q.kind q.number h.numbered in
    let not_short : nat_lt (length c) (octets_at l) ≡ false = lt_false _ _ (omega arith) in
    let not_zero : (number_in l c == 0) ≡ false =
    ap (λ n. n == 0) number ∙ eq_false q.number 0 (λ e. absurd (omega arith)) in
    let numbered : is_numbered q.kind (number_in l c) ≡ true =
    ap (is_numbered q.kind) number ∙ h.numbered in
    let fits : length_test q.kind (number_in l c) (length c - octets_at l) p ≡ true =
    (λ i. length_test q.kind (number i) (len i) p)
    ∙ length_test-fits q.kind q.number (length q.octets) p h.length_fits in
    ap (λ d. part_verdict_as l q.kind d p) h.spelled
    ∙ part_is l q.kind c p
    ∙ (λ i. chain (not_short i) (not_zero i) (numbered i) (fits i) (at i))

-- ---- what is read

-- a body that is long enough is spelled by what stands at its places
spelled : (l : PartLayout) (kind : Kind) (b : List ℕ)
    → IsOctets b
    → octets_at l ≤ length b
    → b ≡ body_as l (piece_at l kind b)
unfolding body_as
spelled l kind b o long =
    let wi : ℕ = octets_of l.id in
    let wn : ℕ = octets_of l.number in
    let id : be (number_at l.id b 0) wi ≡ take wi b = be-number_at l.id b 0 o (omega arith) in
    let number : be (number_at l.number b wi) wn ≡ take wn (drop wi b) =
    be-number_at l.number b wi o (omega arith) in
    sym (take-append-drop (wi + wn) b)
    ∙ ap (λ c. c ++ drop (wi + wn) b) (take-add wi wn b ∙ sym (λ i. id i ++ number i))

-- what is read is a part of the kind that was asked for
pub part_found : (l : PartLayout) (kind : Kind) (b : List ℕ) (p : ℕ) (q : Piece)
    → IsOctets b
    → part_verdict_as l kind b p ≡ Ok q
    → IsPartAs l p b q × (q.kind ≡ kind)
part_found l kind b p q o h =
    let n : ℕ = number_in l b in
    let tests = passed (nat_lt (length b) (octets_at l)) (n == 0) (is_numbered kind n)
    (length_test kind n (length b - octets_at l) p) (piece_at l kind b) q
    (sym (part_is l kind b p) ∙ h) in
    let long : octets_at l ≤ length b = not_lt _ _ tests.0 in
    let len : length b - octets_at l ≡ length (drop (octets_at l) b) =
    sym (length-drop (octets_at l) b) in
    let it : IsPartAs l p b (piece_at l kind b) = record {
      fits = record {
        id_fits = number_at-fits l.id b 0 o;
        number_fits = number_at-fits l.number b (octets_of l.id) o;
      };
      numbered = tests.1;
      length_fits =
          subst (λ m. LengthFits kind n m p) len
          (length_test-true kind n (length b - octets_at l) p tests.2);
      spelled = spelled l kind b o long;
    } in
    (subst (IsPartAs l p b) tests.3 it, sym (ap (λ (r : Piece). r.kind) tests.3))

-- the same of a reader's answer
pub part_gives : (l : PartLayout) (kind : Kind) (b : List ℕ) (p : ℕ) (r : Result PartAs PartFault)
    → IsOctets b
    → Gives r (part_verdict_as l kind b p)
    → IfOk r (λ t. IsPartAs l p b (piece t) × (t.kind ≡ kind))
part_gives l kind b p (Ok t) o g = part_found l kind b p (piece t) o g
part_gives l kind b p (Err e) o g = tt
