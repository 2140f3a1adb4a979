-- The first of a list that passes a test, looked for from a place on.
use Rattle.std.proofs.Common.{◌≡◌, ◌∙◌, refl, ap, ℕ, zero, suc, ◌+◌, ◌≤◌, Bool, true, false, cond, not, List, [], ◌∷◌, length, drop, set, Some, None, nat_lt, ◌<◌, arith}
use Rattle.std.specs.List.{position, position_or_len, prefix_len}
use Rattle.std.proofs.lemmas.Bool.{ltb-false, ltb-true, lt-ltb, le-ltb}
use Rattle.std.proofs.lemmas.List.{length-drop}
use Rattle.std.proofs.lemmas.List.Sums.{prefix_len-le-length}

-- a front part all of which passes need not be looked at again
step-drop : (b : Bool) (n m i : ℕ)
    → (i ≤ n → n ≡ i + m)
    → suc i ≤ cond b (1 + n) 0
    → cond b (1 + n) 0 ≡ suc i + m
step-drop true n m i later h = let same = later (omega (arith, h)) in omega (arith, same)
step-drop false n m i later h = omega (arith, h)

pub prefix_len-drop : {X : Type 0} (p : X → Bool) (xs : List X) (i : ℕ)
    → i ≤ prefix_len p xs
    → prefix_len p xs ≡ i + prefix_len p (drop i xs)
prefix_len-drop p xs zero h = omega arith
prefix_len-drop p [] (suc i) h = omega (arith, h)
prefix_len-drop p (x ∷ xs) (suc i) h =
    step-drop (p x) (prefix_len p xs) (prefix_len p (drop i xs)) i (prefix_len-drop p xs i) h

-- where more passes, the front part that passes is no shorter
step-more : (b c : Bool) (n m : ℕ)
    → (b ≡ true → c ≡ true)
    → n ≤ m
    → cond b (1 + n) 0 ≤ cond c (1 + m) 0
step-more true true n m more le = omega (arith, le)
step-more true false n m more le = absurd (let no : false ≡ true = more refl in cc)
step-more false true n m more le = omega arith
step-more false false n m more le = omega arith

pub prefix_len-set_more : {X : Type 0} (p : X → Bool) (xs : List X) (k : ℕ) (y : X)
    → p y ≡ true
    → prefix_len p xs ≤ prefix_len p (set xs k y)
prefix_len-set_more p [] k y passes = omega arith
prefix_len-set_more p (x ∷ xs) zero y passes =
    step-more (p x) (p y) (prefix_len p xs) (prefix_len p xs) (λ _. passes) (omega arith)
prefix_len-set_more p (x ∷ xs) (suc k) y passes =
    step-more (p x) (p x) (prefix_len p xs) (prefix_len p (set xs k y)) (λ h. h)
    (prefix_len-set_more p xs k y passes)

pub prefix_len-weaker : {X : Type 0} (p q : X → Bool) (xs : List X)
    → ((x : X) → p x ≡ true → q x ≡ true)
    → prefix_len p xs ≤ prefix_len q xs
prefix_len-weaker p q [] more = omega arith
prefix_len-weaker p q (x ∷ xs) more =
    step-more (p x) (q x) (prefix_len p xs) (prefix_len q xs) (more x)
    (prefix_len-weaker p q xs more)

-- ---- the first that passes

found-Some : (b : Bool) (n k : ℕ) → cond b (Some n) None ≡ Some k → n ≡ k
found-Some true n k is = cc
found-Some false n k is = absurd cc

found-None : (b : Bool) (n : ℕ) → cond b (Some n) None ≡ None → b ≡ false
found-None true n is = absurd cc
found-None false n is = refl

-- found behind a place before which none passes
pub position-Some_drop : {X : Type 0} (p : X → Bool) (xs : List X) (i k : ℕ)
    → i ≤ position_or_len p xs
    → position p (drop i xs) ≡ Some k
    → position_or_len p xs ≡ i + k
position-Some_drop p xs i k front is =
    prefix_len-drop (λ x. not (p x)) xs i front
    ∙ ap (λ n. i + n) (found-Some (nat_lt (position_or_len p (drop i xs)) (length (drop i xs)))
    (position_or_len p (drop i xs)) k is)

-- where none passes behind it, none does
pub position-None_drop : {X : Type 0} (p : X → Bool) (xs : List X) (i : ℕ)
    → i ≤ position_or_len p xs
    → position p (drop i xs) ≡ None
    → position_or_len p xs ≡ length xs
position-None_drop p xs i front is =
    let not_below = found-None (nat_lt (position_or_len p (drop i xs)) (length (drop i xs)))
    (position_or_len p (drop i xs)) is in
    let whole = prefix_len-drop (λ x. not (p x)) xs i front in
    let most = prefix_len-le-length (λ x. not (p x)) xs in
    let past = ltb-false (position_or_len p (drop i xs)) (length (drop i xs)) not_below in
    omega (arith, whole, most, past, length-drop i xs)

-- the same of where it is found in all of it
found-below : (b : Bool) (n : ℕ) (k : ℕ) → cond b (Some n) None ≡ Some k → b ≡ true
found-below true n k is = refl
found-below false n k is = absurd cc

pub position-Some_from : {X : Type 0} (p : X → Bool) (xs : List X) (i k : ℕ)
    → i ≤ position_or_len p xs
    → position p (drop i xs) ≡ Some k
    → position p xs ≡ Some (i + k)
position-Some_from p xs i k front is =
    let at = position-Some_drop p xs i k front is in
    let below = ltb-true (position_or_len p (drop i xs)) (length (drop i xs))
    (found-below (nat_lt (position_or_len p (drop i xs)) (length (drop i xs)))
    (position_or_len p (drop i xs)) k is) in
    let whole = prefix_len-drop (λ x. not (p x)) xs i front in
    let within : position_or_len p xs < length xs =
    omega (arith, whole, below, length-drop i xs) in
    ap (λ b. cond b (Some (position_or_len p xs)) None)
    (lt-ltb (position_or_len p xs) (length xs) within)
    ∙ ap Some at

pub position-None_from : {X : Type 0} (p : X → Bool) (xs : List X) (i : ℕ)
    → i ≤ position_or_len p xs
    → position p (drop i xs) ≡ None
    → position p xs ≡ None
position-None_from p xs i front is =
    let at = position-None_drop p xs i front is in
    ap (λ b. cond b (Some (position_or_len p xs)) None)
    (le-ltb (position_or_len p xs) (length xs) (omega (arith, at)))
