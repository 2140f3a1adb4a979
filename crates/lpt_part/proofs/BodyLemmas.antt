-- A body is the part that its verdict says, and each part's body is read as this part.
use Rattle.std.proofs.Common.{◌≡◌, ◌∙◌, ap, sym, subst, refl, ℕ, ◌+◌, ◌*◌, ◌-◌, ◌<◌, ◌≤◌, ◌==◌, nat_lt, Bool, true, false, List, [], ◌∷◌, ◌++◌, length, drop, Result, Ok, Err, if◌then◌else◌, get_or, length-drop, arith}
use Rattle.std.specs.Prelude.{IfOk, Some, ◌↔◌}
use Rattle.std.specs.Result.{result_ok}
use Rattle.lpt_part.proofs.ResultLemmas.{result_ok-some}
use Rattle.std.proofs.lemmas.Bool.Decides.{nat_tests}
use Rattle.std.proofs.lemmas.Grind.{common_steps}
use Rattle.lpt_part.specs.Identifiers.{TransactionId}
use Rattle.lpt_packet.specs.Numbers.{be, word_at, IsOctets}
use Rattle.lpt_part.specs.declared.kind.Kind.{Kind}
use Rattle.lpt_part.specs.declared.kind.Kind.TheVariants.{First, Middle, Last}
use Rattle.lpt_part.specs.declared.fault.PartFault.{PartFault}
use Rattle.lpt_part.specs.declared.fault.PartFault.TheVariants.{ShortPart, Zero, KindNumber, PartLength}
use Rattle.lpt_part.specs.PartRanges.{NumberFits, LengthFits, PartFits}
use Rattle.lpt_part.specs.declared.part.Part.{Part}
use Rattle.lpt_part.specs.Parts.{Piece, piece, body_of, IsPart, number_test, length_test, piece_at, part_verdict, Gives, part_in}
use Rattle.lpt_packet.proofs.Codec.{word_cells}

-- ---- the tests

-- a number that passes its test fits
pub number_test-true : (kind : Kind) (n : ℕ) → number_test kind n ≡ true → NumberFits kind n
number_test-true kind n h = grind (arith, nat_tests, common_steps)

-- a length that passes its test fits
pub length_test-true : (kind : Kind) (n len p : ℕ)
    → length_test kind n len p ≡ true
    → LengthFits kind n len p
length_test-true kind n len p h = grind (arith, nat_tests, common_steps)

-- a number that fits passes its test
number_test-fits : (kind : Kind) (n : ℕ) → NumberFits kind n → number_test kind n ≡ true
number_test-fits kind n h = grind (arith, nat_tests, common_steps)

-- a length that fits passes its test
length_test-fits : (kind : Kind) (n len p : ℕ)
    → LengthFits kind n len p
    → length_test kind n len p ≡ true
length_test-fits kind n len p h = grind (arith, nat_tests, common_steps)

-- no part is number 0
pub number_is_some : (kind : Kind) (n : ℕ) → NumberFits kind n → 1 ≤ n
number_is_some First n h = omega arith
number_is_some Middle n h = omega arith
number_is_some Last n h = omega arith

-- a part sequence number has 16 bits
pub number_is_short : (kind : Kind) (n : ℕ) → NumberFits kind n → n < 65536
number_is_short First n h = omega arith
number_is_short Middle n h = omega arith
number_is_short Last n h = omega arith

-- ---- the places

-- a body has four octets before the part's
pub length-body_of : (q : Piece) → length (body_of q) ≡ 4 + length q.octets
unfolding body_of
length-body_of q = omega arith

-- a piece of these fields
piece_of : Kind → List ℕ → TransactionId → ℕ → Piece
piece_of kind octets id number =
    record { id = id; number = number; kind = kind; octets = octets }

piece_of-equal : (kind : Kind) (octets : List ℕ) (id id' number number' : ℕ)
    → id ≡ id'
    → number ≡ number'
    → piece_of kind octets id number ≡ piece_of kind octets id' number'
piece_of-equal kind octets id id' number number' e f = cc

-- what stands at the places of a part's body is the part
pub piece_at-body_of : (q : Piece)
    → q.id < 65536
    → q.number < 65536
    → piece_at q.kind (body_of q) ≡ q
unfolding body_of piece_of
piece_at-body_of q h k =
    piece_of-equal q.kind q.octets
    (word_at (be q.id 2 ++ be q.number 2 ++ q.octets) 0) q.id
    (word_at (be q.id 2 ++ be q.number 2 ++ q.octets) 2) q.number
    (omega arith) (omega arith)

-- four octets and more are the body of what stands at their places
pub body_of-piece_at : (kind : Kind) (b : List ℕ)
    → IsOctets b
    → 4 ≤ length b
    → b ≡ body_of (piece_at kind b)
unfolding body_of
body_of-piece_at kind [] o h = absurd (omega arith)
body_of-piece_at kind (x ∷ []) o h = absurd (omega arith)
body_of-piece_at kind (x ∷ y ∷ []) o h = absurd (omega arith)
body_of-piece_at kind (x ∷ y ∷ z ∷ []) o h = absurd (omega arith)
body_of-piece_at kind (x ∷ y ∷ z ∷ w ∷ rest) o h =
    let id : be (256 * x + y) 2 ≡ x ∷ y ∷ [] = word_cells x y (o 0) (o 1) in
    let number : be (256 * z + w) 2 ≡ z ∷ w ∷ [] = word_cells z w (o 2) (o 3) in
    sym (ap (λ c. c ++ be (256 * z + w) 2 ++ rest) id ∙ ap (λ c. x ∷ y ∷ c ++ rest) number)

-- ---- the verdict

-- the verdict over the answers of its tests
abbrev chain : Bool → Bool → Bool → Bool → Piece → Result Piece PartFault
chain short zero number len q =
    if short then Err ShortPart
    else if zero then Err Zero
    else if number then (if len then Ok q else Err PartLength)
    else Err KindNumber

-- the verdict's tests of a body
abbrev tested : Kind → List ℕ → ℕ → Result Piece PartFault
tested kind b p =
    chain (nat_lt (length b) 4) (word_at b 2 == 0) (number_test kind (word_at b 2))
    (length_test kind (word_at b 2) (length b - 4) p) (piece_at kind b)

part_verdict-tested : (kind : Kind) (b : List ℕ) (p : ℕ) → part_verdict kind b p ≡ tested kind b p
unfolding part_verdict
part_verdict-tested kind b p = refl

-- all tests were passed
record Passed (short zero number len : Bool) (q r : Piece) : Type 0 where
  short_is : short ≡ false
  zero_is : zero ≡ false
  number_is : number ≡ true
  len_is : len ≡ true
  same : q ≡ r

chain_passed : (short zero number len : Bool) (q r : Piece)
    → chain short zero number len q ≡ Ok r
    → Passed short zero number len q r
chain_passed true zero number len q r h = absurd cc
chain_passed false true number len q r h = absurd cc
chain_passed false false false len q r h = absurd cc
chain_passed false false true false q r h = absurd cc
chain_passed false false true true q r h =
    record { short_is = refl; zero_is = refl; number_is = refl; len_is = refl; same = cc }

chain_passes : (short zero number len : Bool) (q : Piece)
    → short ≡ false
    → zero ≡ false
    → number ≡ true
    → len ≡ true
    → chain short zero number len q ≡ Ok q
chain_passes short zero number len q hs hz hn hl = rw (hs, hz, hn, hl) refl

-- a part's body is read as this part
pub part_verdict-body_of : (p : ℕ) (q : Piece)
    → q.id < 65536
    → PartFits q.kind q.number (length q.octets) p
    → part_verdict q.kind (body_of q) p ≡ Ok q
part_verdict-body_of p q h f =
    let b : List ℕ = body_of q in
    let short : q.number < 65536 = number_is_short q.kind q.number f.number_fits in
    let at : piece_at q.kind b ≡ q = piece_at-body_of q h short in
    let number : word_at b 2 ≡ q.number = ap (λ (r : Piece). r.number) at in
    let len : length b - 4 ≡ length q.octets = omega (arith, length-body_of q) in
    let fits : PartFits q.kind (word_at b 2) (length b - 4) p = rw (number, len) f in
    let some : 1 ≤ word_at b 2 = number_is_some q.kind (word_at b 2) fits.number_fits in
    part_verdict-tested q.kind b p
    ∙ chain_passes _ _ _ _ _
    (grind (arith, nat_tests, length-body_of q))
    (grind (arith, nat_tests))
    (number_test-fits q.kind (word_at b 2) fits.number_fits)
    (length_test-fits q.kind (word_at b 2) (length b - 4) p fits.length_fits)
    ∙ ap Ok at

-- each part is read
pub IsPart-read : (p : ℕ) (b : List ℕ) (q : Piece)
    → IsPart p b q
    → part_verdict q.kind b p ≡ Ok q
IsPart-read p b q h =
    ap (λ c. part_verdict q.kind c p) h.spelled ∙ part_verdict-body_of p q h.id_fits h.part_fits

-- a body that passes the tests is what stands at its places
tested_is_part : (kind : Kind) (b : List ℕ) (p : ℕ)
    → IsOctets b
    → 4 ≤ length b
    → NumberFits kind (word_at b 2)
    → LengthFits kind (word_at b 2) (length b - 4) p
    → IsPart p b (piece_at kind b)
tested_is_part kind b p o long number len =
    let first : get_or b 0 0 < 256 = o 0 in
    let second : get_or b 1 0 < 256 = o 1 in
    let behind : LengthFits kind (word_at b 2) (length (drop 4 b)) p = rw length-drop len in
    record {
      id_fits = omega arith;
      part_fits = record { number_fits = number; length_fits = behind };
      spelled = body_of-piece_at kind b o long;
    }

-- what is read is a part of the kind that was asked for
pub part_verdict-found : (kind : Kind) (b : List ℕ) (p : ℕ) (q : Piece)
    → IsOctets b
    → part_verdict kind b p ≡ Ok q
    → IsPart p b q × (q.kind ≡ kind)
part_verdict-found kind b p q o h =
    let n : ℕ = word_at b 2 in
    let passed : Passed (nat_lt (length b) 4) (n == 0) (number_test kind n)
    (length_test kind n (length b - 4) p) (piece_at kind b) q =
    chain_passed _ _ _ _ _ _ (sym (part_verdict-tested kind b p) ∙ h) in
    let found : IsPart p b (piece_at kind b) =
    tested_is_part kind b p o
    (grind (arith, nat_tests, passed.short_is))
    (number_test-true kind n passed.number_is)
    (length_test-true kind n (length b - 4) p passed.len_is) in
    (subst (IsPart p b) passed.same found, sym (ap (λ (r : Piece). r.kind) passed.same))

-- a list of octets reads as a part exactly where it is one
pub part_in-IsPart : (p : ℕ) (b : List ℕ) (q : Piece)
    → IsOctets b
    → (part_in p q.kind b ≡ Some q) ↔ IsPart p b q
part_in-IsPart p b q o = (
  (λ h. (part_verdict-found q.kind b p q o (result_ok-some (part_verdict q.kind b p) q h)).0),
  (λ h. ap result_ok (IsPart-read p b q h)),
)

-- ---- the reader's answer

-- what a reader that gives the verdict answers is a part
pub Gives-found : (kind : Kind) (b : List ℕ) (p : ℕ) (r : Result Part PartFault)
    → IsOctets b
    → Gives p r (part_verdict kind b p)
    → IfOk r (λ t. IsPart p b (piece t) × (t.kind ≡ kind))
Gives-found kind b p (Ok t) o g = part_verdict-found kind b p (piece t) o g.0
Gives-found kind b p (Err e) o g = tt

-- a reader that gives the verdict answers with each part
pub Gives-read : (kind : Kind) (b : List ℕ) (p : ℕ) (r : Result Part PartFault)
    → Gives p r (part_verdict kind b p)
    → (q : Piece)
    → q.kind ≡ kind
    → IsPart p b q
    → Gives p r (Ok q)
Gives-read kind b p r g q k h =
    subst (Gives p r) (ap (λ j. part_verdict j b p) (sym k) ∙ IsPart-read p b q h) g
