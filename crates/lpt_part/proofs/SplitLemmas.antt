-- The parts of a message: each fits, and joined they are the message.
use Rattle.std.proofs.Common.{◌≡◌, ◌∙◌, ap, sym, refl, ℕ, zero, suc, ◌+◌, ◌*◌, ◌-◌, ◌<◌, ◌≤◌, ◌==◌, min, Bool, true, false, List, ◌++◌, length, take, drop, if◌then◌else◌, ◌≢◌, eqb-true, length-take, length-drop, arith}
use Rattle.std.proofs.Math.Nat.{mul-le-mul_right, mul-le-mul_left}
use Rattle.std.proofs.Math.Seq.{take-add}
use Rattle.std.proofs.lemmas.List.{take_all}
use Rattle.std.proofs.lemmas.Bool.{eqb-false}
use Rattle.lpt_part.specs.declared.kind.Kind.TheVariants.{First, Middle, Last}
use Rattle.lpt_part.specs.PartRanges.{PartFits}
use Rattle.lpt_part.specs.Splitting.{IsPartSize, part_count, part_of, kind_at, parts_joined}

-- ---- how many parts

-- one fewer, times p
pub pred-mul : (n p : ℕ) → 1 ≤ n → (n - 1) * p + p ≡ n * p
pred-mul zero p h = absurd (omega arith)
pred-mul (suc n) p h = grind arith

-- the parts hold the message
part_count-holds : (len p : ℕ) → 0 < p → len ≤ part_count len p * p
part_count-holds len p h = omega arith

-- one part fewer doesn't
part_count-least : (len p : ℕ) → 0 < p → part_count len p * p < len + p
part_count-least len p h = omega arith

-- more than p octets take more than one part
two_parts : (n len p : ℕ) → p < len → len ≤ n * p → 2 ≤ n
two_parts zero len p l h = absurd (omega arith)
two_parts (suc zero) len p l h = absurd (omega arith)
two_parts (suc (suc n)) len p l h = omega arith

-- a message that is longer than a part has at least two
pub part_count-two : (len p : ℕ) → 0 < p → p < len → 2 ≤ part_count len p
part_count-two len p h l = two_parts (part_count len p) len p l (part_count-holds len p h)

-- the longest message has 16,386 parts of 4 octets
pub part_count-most : (len p : ℕ) → IsPartSize p → p < len → len ≤ 65542 → part_count len p ≤ 16386
part_count-most len p size long most =
    let n : ℕ = part_count len p in
    let two : 2 ≤ n = part_count-two len p (omega arith) long in
    let same : (n - 1) * p + p ≡ n * p = pred-mul n p (omega arith) in
    let least : n * p < len + p = part_count-least len p (omega arith) in
    let below : (n - 1) * 4 ≤ (n - 1) * p = mul-le-mul_left (n - 1) size.0 in
    omega arith

-- ---- what a part is

length-part_of : (m : List ℕ) (p k : ℕ)
    → length (part_of m p k) ≡ min p (length m - (k - 1) * p)
length-part_of m p k =
    length-take p (drop ((k - 1) * p) m) ∙ ap (min p) (length-drop ((k - 1) * p) m)

-- part k of n of so many octets has len of them
record IsPlaced (k n len p all : ℕ) : Type 0 where
  some : 1 ≤ k
  within : k ≤ n
  two : 2 ≤ n
  short : k ≤ 65535
  len_is : len ≡ min p (all - (k - 1) * p)
  starts : (k - 1) * p < all
  before_last : k < n → (k - 1) * p + p < all
  long : p < all
  most : all ≤ 65542
  size : 1 ≤ p

placed_fits : (first last : Bool) (k n len p all : ℕ)
    → IsPlaced k n len p all
    → (k == 1) ≡ first
    → (k == n) ≡ last
    → PartFits (if first then First else if last then Last else Middle) k len p
placed_fits true last k n len p all h hf hl =
    let one : k ≡ 1 = eqb-true k 1 hf in
    let start : (k - 1) * p ≡ 0 = rw one (omega arith) in
    record {
      number_fits = record { least = omega arith; greatest = omega arith };
      length_fits = record { least = omega arith; greatest = omega arith; end = omega arith };
    }
placed_fits false true k n len p all h hf hl =
    let last : k ≡ n = eqb-true k n hl in
    record {
      number_fits = record { least = omega arith; greatest = omega arith };
      length_fits = record { least = omega arith; greatest = omega arith; end = omega arith };
    }
placed_fits false false k n len p all h hf hl =
    let first : k ≢ 1 = eqb-false k 1 hf in
    let last : k ≢ n = eqb-false k n hl in
    let inner : (k - 1) * p + p < all = h.before_last (omega arith) in
    record {
      number_fits = record { least = omega arith; greatest = omega arith };
      length_fits = record { least = omega arith; greatest = omega arith; end = omega arith };
    }

-- a part that isn't the last is followed by more octets
inner_ends : (len p k : ℕ) → 0 < p → k < part_count len p → k * p < len
inner_ends len p k h l =
    let n : ℕ = part_count len p in
    let inner : k * p ≤ (n - 1) * p = mul-le-mul_right p (omega arith) in
    omega (arith, pred-mul n p (omega arith), part_count-least len p h)

-- each part of a message fits
pub part_of-fits : (m : List ℕ) (p k : ℕ)
    → IsPartSize p
    → p < length m
    → length m ≤ 65542
    → 1 ≤ k
    → k ≤ part_count (length m) p
    → PartFits (kind_at k (part_count (length m) p)) k (length (part_of m p k)) p
part_of-fits m p k size long most some within =
    let len : ℕ = length m in
    let n : ℕ = part_count len p in
    let end : (k - 1) * p + p ≡ k * p = pred-mul k p some in
    let below : k * p ≤ n * p = mul-le-mul_right p within in
    let placed : IsPlaced k n (length (part_of m p k)) p len = record {
      some = some;
      within = within;
      two = part_count-two len p (omega arith) long;
      short = omega (arith, part_count-most len p size long most);
      len_is = length-part_of m p k;
      starts = omega (arith, part_count-least len p (omega arith));
      before_last = λ h. omega (arith, inner_ends len p k (omega arith) h);
      long = long;
      most = most;
      size = omega arith;
    } in
    placed_fits (k == 1) (k == n) k n (length (part_of m p k)) p len placed refl refl

-- ---- all parts

-- parts 1 to k are the front of the message
pub parts_joined-take : (m : List ℕ) (p k : ℕ) → parts_joined m p k ≡ take (k * p) m
parts_joined-take m p zero =
    let none : 0 * p ≡ 0 = omega arith in
    rw none refl
parts_joined-take m p (suc k) =
    let before : suc k - 1 ≡ k = omega arith in
    let sum : suc k * p ≡ k * p + p = grind arith in
    let front : parts_joined m p k ≡ take (k * p) m = parts_joined-take m p k in
    rw (before, sum) (ap (λ c. c ++ take p (drop (k * p) m)) front ∙ sym (take-add (k * p) p m))

-- all parts are the message
pub parts_joined-all : (m : List ℕ) (p : ℕ)
    → IsPartSize p
    → parts_joined m p (part_count (length m) p) ≡ m
parts_joined-all m p size =
    parts_joined-take m p (part_count (length m) p)
    ∙ take_all (part_count (length m) p * p) m (part_count-holds (length m) p (omega arith))
