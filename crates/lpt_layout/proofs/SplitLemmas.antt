-- The parts of a message, for part sizes that the profile doesn't have.
use Rattle.std.proofs.Common.{◌≡◌, ◌≢◌, ◌∙◌, ap, refl, ℕ, ◌+◌, ◌*◌, ◌-◌, ◌<◌, ◌≤◌, ◌==◌, min, Bool, true, false, List, length, drop, if◌then◌else◌, eqb-true, length-take, length-drop, arith}
use Rattle.std.specs.Prelude.{Some}
use Rattle.std.proofs.Math.Nat.{mul-le-mul_right}
use Rattle.std.proofs.lemmas.List.{take_all}
use Rattle.std.proofs.lemmas.Bool.{eqb-false}
use Rattle.lpt_packet.proofs.BoolLemmas.{le_true}
use Rattle.lpt_part.specs.declared.kind.Kind.{Kind}
use Rattle.lpt_part.specs.declared.kind.Kind.TheVariants.{First, Middle, Last}
use Rattle.lpt_part.specs.PartRanges.{LengthFits}
use Rattle.lpt_part.specs.Parts.{Piece}
use Rattle.lpt_part.specs.Splitting.{part_count, part_of, kind_at, parts_joined}
use Rattle.lpt_part.proofs.SplitLemmas.{pred-mul, part_count-two, parts_joined-take}
use Rattle.lpt_layout.specs.declared.layout.PartLayout.{PartLayout}
use Rattle.lpt_layout.specs.Parts.{IsPartSizeAs, IsPartAs, a_size, octets_at, is_numbered, told_size}
use Rattle.lpt_layout.proofs.PartLemmas.{piece_at-body_as}

-- ---- where a part lies

-- part k of n, of len octets, in a message of so many
record IsPlaced (k n len p all : ℕ) : Type 0 where
  some : 1 ≤ k
  within : k ≤ n
  two : 2 ≤ n
  len_is : len ≡ min p (all - (k - 1) * p)
  starts : (k - 1) * p < all
  before_last : k < n → (k - 1) * p + p < all
  long : p < all
  most : all ≤ 65542
  size : 1 ≤ p

placed_fits : (first last : Bool) (k n len p all : ℕ)
    → IsPlaced k n len p all
    → (k == 1) ≡ first
    → (k == n) ≡ last
    → (is_numbered (if first then First else if last then Last else Middle) k ≡ true)
    × LengthFits (if first then First else if last then Last else Middle) k len p
placed_fits true last k n len p all h hf hl =
    let one : k ≡ 1 = eqb-true k 1 hf in
    let start : (k - 1) * p ≡ 0 = rw one (omega arith) in
    (hf, record { least = omega arith; greatest = omega arith; end = omega arith })
placed_fits false true k n len p all h hf hl =
    let last : k ≡ n = eqb-true k n hl in (
      le_true 2 k (omega arith),
      record { least = omega arith; greatest = omega arith; end = omega arith },
    )
placed_fits false false k n len p all h hf hl =
    let first : k ≢ 1 = eqb-false k 1 hf in
    let last : k ≢ n = eqb-false k n hl in
    let inner : (k - 1) * p + p < all = h.before_last (omega arith) in (
      le_true 2 k (omega arith),
      record { least = omega arith; greatest = omega arith; end = omega arith },
    )

-- one part fewer doesn't hold the message
part_count-least : (len p : ℕ) → 0 < p → part_count len p * p < len + p
part_count-least len p h = omega arith

-- the parts hold it
part_count-holds : (len p : ℕ) → 0 < p → len ≤ part_count len p * p
part_count-holds len p h = omega arith

-- a part that isn't the last is followed by more octets
inner_ends : (len p k : ℕ) → 0 < p → k < part_count len p → k * p < len
inner_ends len p k h l =
    let n : ℕ = part_count len p in
    let inner : k * p ≤ (n - 1) * p = mul-le-mul_right p (omega arith) in
    omega (arith, pred-mul n p (omega arith), part_count-least len p h)

-- each part of a message fits
pub part_of-fits : (m : List ℕ) (p k : ℕ)
    → IsPartSizeAs p
    → p < length m
    → length m ≤ 65542
    → 1 ≤ k
    → k ≤ part_count (length m) p
    → (is_numbered (kind_at k (part_count (length m) p)) k ≡ true)
    × LengthFits (kind_at k (part_count (length m) p)) k (length (part_of m p k)) p
part_of-fits m p k size long most some within =
    let len : ℕ = length m in
    let n : ℕ = part_count len p in
    let end : (k - 1) * p + p ≡ k * p = pred-mul k p some in
    let below : k * p ≤ n * p = mul-le-mul_right p within in
    let placed : IsPlaced k n (length (part_of m p k)) p len = record {
      some = some;
      within = within;
      two = part_count-two len p (omega arith) long;
      len_is =
          length-take p (drop ((k - 1) * p) m) ∙ ap (min p) (length-drop ((k - 1) * p) m);
      starts = omega (arith, part_count-least len p (omega arith));
      before_last = λ h. omega (arith, inner_ends len p k (omega arith) h);
      long = long;
      most = most;
      size = omega arith;
    } in
    placed_fits (k == 1) (k == n) k n (length (part_of m p k)) p len placed refl refl

-- all parts are the message
pub parts_joined-all : (m : List ℕ) (p : ℕ)
    → IsPartSizeAs p
    → parts_joined m p (part_count (length m) p) ≡ m
parts_joined-all m p size =
    parts_joined-take m p (part_count (length m) p)
    ∙ take_all (part_count (length m) p * p) m (part_count-holds (length m) p (omega arith))

-- ---- what a part tells of the part size

a_size-is : (p n : ℕ) → IsPartSizeAs p → n ≡ p → a_size n ≡ Some p
a_size-is p n size e =
    let least = le_true 1 p size.0 in
    let greatest = le_true p 65535 size.1 in
    ap a_size e ∙ rw (least, greatest) refl

told : (kind : Kind) (l : PartLayout) (b : List ℕ) (number len p : ℕ)
    → IsPartSizeAs p
    → LengthFits kind number len p
    → length b - octets_at l ≡ len
    → ¬ (kind ≡ Last)
    → told_size l kind b ≡ Some p
told First l b number len p size h e other = a_size-is p (length b - octets_at l) size (omega arith)
told Middle l b number len p size h e other =
    a_size-is p (length b - octets_at l) size (omega arith)
told Last l b number len p size h e other = absurd (other refl)

-- a part that isn't the last tells the part size
pub size-told : (l : PartLayout) (p : ℕ) (b : List ℕ) (q : Piece)
    → IsPartSizeAs p
    → IsPartAs l p b q
    → ¬ (q.kind ≡ Last)
    → told_size l q.kind b ≡ Some p
size-told l p b q size h other =
    let long = (piece_at-body_as l q h.fits).1 in
    let len : length b - octets_at l ≡ length q.octets =
    ap (λ c. length c - octets_at l) h.spelled ∙ omega (arith, long) in
    told q.kind l b q.number (length q.octets) p size h.length_fits len other
