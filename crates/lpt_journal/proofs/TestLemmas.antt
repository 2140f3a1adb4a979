-- What tests tell, and what lists have at a place.
use Rattle.std.proofs.Common.{◌≡◌, ◌∙◌, ap, sym, refl, ℕ, zero, suc, ◌+◌, ◌<◌, ◌≤◌, nat_le, ◌==◌, Bool, true, false, ◌||◌, cond, if◌then◌else◌, ◌⊎◌, inl, inr, List, [], ◌∷◌, ◌++◌, length, map, Option, Some, None, arith, zero-add}
use Rattle.std.proofs.lemmas.Bool.Decides.{nat_tests}
use Rattle.std.proofs.lemmas.List.{map-append}
use Rattle.std.specs.List.{slice_get, find, filter, Contains}
use Rattle.lpt_events.specs.declared.fault.StepFault.{StepFault}
use Rattle.lpt_journal.specs.Journal.{with_all}
use Rattle.lpt_journal.specs.Refusals.{first_fault}

-- ---- tests

-- a test of numbers that fails
pub le_false : (a b : ℕ) → nat_le a b ≡ false → b < a
le_false a b h = grind (arith, nat_tests)

-- a number that isn't 0
pub not_zero : (n : ℕ) → (n == 0) ≡ false → 1 ≤ n
not_zero n h = grind (arith, nat_tests)

-- one of two tests holds where either does
pub either : (a b : Bool) → (a || b) ≡ true → (a ≡ true) ⊎ (b ≡ true)
either true b e = inl refl
either false b e = inr e

-- ---- refusals

-- where an event isn't refused, none of its line's tests holds
pub one_passes : (a : Bool) (f : StepFault) → first_fault ((a, f) ∷ []) ≡ None → a ≡ false
one_passes true f h = absurd cc
one_passes false f h = refl

-- the same of a line of two
pub two_pass : (a b : Bool) (f g : StepFault)
    → first_fault ((a, f) ∷ (b, g) ∷ []) ≡ None
    → (a ≡ false) × (b ≡ false)
two_pass true b f g h = absurd cc
two_pass false true f g h = absurd cc
two_pass false false f g h = (refl, refl)

-- the same of a line of three
pub three_pass : (a b c : Bool) (f g i : StepFault)
    → first_fault ((a, f) ∷ (b, g) ∷ (c, i) ∷ []) ≡ None
    → (a ≡ false) × (b ≡ false) × (c ≡ false)
three_pass true b c f g i h = absurd cc
three_pass false true c f g i h = absurd cc
three_pass false false true f g i h = absurd cc
three_pass false false false f g i h = (refl, refl, refl)

-- the same of a line of four
pub four_pass : (a b c d : Bool) (f g i j : StepFault)
    → first_fault ((a, f) ∷ (b, g) ∷ (c, i) ∷ (d, j) ∷ []) ≡ None
    → (a ≡ false) × (b ≡ false) × (c ≡ false) × (d ≡ false)
four_pass true b c d f g i j h = absurd cc
four_pass false true c d f g i j h = absurd cc
four_pass false false true d f g i j h = absurd cc
four_pass false false false true f g i j h = absurd cc
four_pass false false false false f g i j h = (refl, refl, refl, refl)

-- ---- lists

-- an empty list has nothing
pub no_place : {A : Type 0} (k : ℕ) (y : A) → slice_get [] k ≡ Some y → ⊥
no_place k y h = cc

-- what is found passes the test
pub find_passes : {A : Type 0} (test : A → Bool) (xs : List A) (y : A)
    → find test xs ≡ Some y
    → test y ≡ true
find_passes {A = A} test [] y h = absurd cc
find_passes {A = A} test (x ∷ xs) y h = go (test x) refl (find_passes test xs y) h where
  go : (b : Bool) → test x ≡ b → (find test xs ≡ Some y → test y ≡ true)
      → ◌≡◌ {A = Option A} (cond b (Some x) (find test xs)) (Some y) → test y ≡ true
  go true e rest k = let s : x ≡ y = cc in ap test (sym s) ∙ e
  go false e rest k = rest k

-- an element stays where it is as the list grows
pub get-with_all : {A : Type 0} (xs ys : List A) (n : ℕ) (y : A)
    → slice_get xs n ≡ Some y
    → slice_get (with_all xs ys) n ≡ Some y
get-with_all {A = A} xs [] n y h = h
get-with_all {A = A} xs (z ∷ ys) n y h = go xs n h where
  go : (xs : List A) (n : ℕ) → slice_get xs n ≡ Some y → slice_get (xs ++ z ∷ ys) n ≡ Some y
  go [] n h = absurd cc
  go (x ∷ xs) zero h = h
  go (x ∷ xs) (suc n) h = go xs n h

-- a new element stands behind the old ones
pub get-behind : {A : Type 0} (xs ys : List A) (k : ℕ) (y : A)
    → slice_get ys k ≡ Some y
    → slice_get (with_all xs ys) (length xs + k) ≡ Some y
get-behind xs [] k y h = absurd (no_place k y h)
get-behind {A = A} xs (z ∷ ys) k y h = go xs where
  go : (xs : List A) → slice_get (xs ++ z ∷ ys) (length xs + k) ≡ Some y
  go [] = ap (slice_get (z ∷ ys)) (zero-add k) ∙ h
  go (x ∷ xs) =
      let more : suc (length xs) + k ≡ suc (length xs + k) = omega arith in
      ap (slice_get (x ∷ xs ++ z ∷ ys)) more ∙ go xs

-- a function of each element of the longer list
pub map-with_all : {A B : Type 0} (f : A → B) (xs ys : List A)
    → map f (with_all xs ys) ≡ with_all (map f xs) (map f ys)
map-with_all f xs [] = refl
map-with_all f xs (y ∷ ys) = map-append f xs (y ∷ ys)

-- what a list with others behind it has at a place: an old element, or a new one
abbrev pub IsOldOrNew : {A : Type 0} → List A → List A → ℕ → A → Type 0
IsOldOrNew xs ys n y =
    (slice_get xs n ≡ Some y) ⊎ ((k : ℕ) × (n ≡ length xs + k) × (slice_get ys k ≡ Some y))

one_more : {A : Type 0} (x : A) (xs ys : List A) (n : ℕ) (y : A)
    → IsOldOrNew xs ys n y
    → IsOldOrNew (x ∷ xs) ys (suc n) y
one_more x xs ys n y (inl e) = inl e
one_more x xs ys n y (inr e) = inr (e.0, let s : n ≡ length xs + e.0 = e.1 in omega arith, e.2)

-- an element of the longer list is an old one or a new one
pub with_all_cases : {A : Type 0} (xs ys : List A) (n : ℕ) (y : A)
    → slice_get (with_all xs ys) n ≡ Some y
    → IsOldOrNew xs ys n y
with_all_cases {A = A} xs [] n y h = inl h
with_all_cases {A = A} xs (z ∷ ys) n y h = go xs n h where
  go : (xs : List A) (n : ℕ)
      → slice_get (xs ++ z ∷ ys) n ≡ Some y
      → IsOldOrNew xs (z ∷ ys) n y
  go [] n h = inr (n, sym (zero-add n), h)
  go (x ∷ xs) zero h = inl h
  go (x ∷ xs) (suc n) h = one_more x xs (z ∷ ys) n y (go xs n h)

-- what a list contains stands at a place
pub place_in : {A : Type 0} (xs : List A) (y : A)
    → Contains xs y
    → (k : ℕ) × (slice_get xs k ≡ Some y)
place_in [] y (k, within, is) = absurd (omega arith)
place_in (x ∷ xs) y (zero, within, is) = (0, ap Some is)
place_in (x ∷ xs) y (suc k, within, is) =
    let rest = place_in xs y (k, (omega arith), is) in (suc rest.0, rest.1)

-- an element that passes a test is one of the list
pub passed : {A : Type 0} (p : A → Bool) (xs : List A) (k : ℕ) (y : A)
    → slice_get (filter p xs) k ≡ Some y
    → (j : ℕ) × (slice_get xs j ≡ Some y) × (p y ≡ true)
passed p [] k y e = absurd (no_place k y e)
passed {A} p (x ∷ xs) k y e = go (p x) refl k e (passed p xs) where
  later : (j : ℕ) × (slice_get xs j ≡ Some y) × (p y ≡ true)
      → (j : ℕ) × (slice_get (x ∷ xs) j ≡ Some y) × (p y ≡ true)
  later (j, f, t) = (suc j, f, t)

  go : (b : Bool)
      → p x ≡ b
      → (k : ℕ)
      → slice_get (if b then x ∷ filter p xs else filter p xs) k ≡ Some y
      → ((k : ℕ) (y : A) → slice_get (filter p xs) k ≡ Some y
      → (j : ℕ) × (slice_get xs j ≡ Some y) × (p y ≡ true))
      → (j : ℕ) × (slice_get (x ∷ xs) j ≡ Some y) × (p y ≡ true)
  go true t zero f rest = let same : x ≡ y = cc in (0, f, ap p (sym same) ∙ t)
  go true t (suc k) f rest = later (rest k y f)
  go false t k f rest = later (rest k y f)
