-- What lists have at a place.
use Rattle.std.proofs.Common.{◌≡◌, refl, subst, ℕ, zero, suc, ◌≤◌, List, [], ◌∷◌, ◌++◌, drop, Option, Some, None, ◌⊎◌, inl, inr, arith}
use Rattle.std.specs.List.{slice_get, AllByRecursion}
use Rattle.std.specs.Option.{option_map}

-- in two lists, one behind the other
pub at-append : {A : Type 0} (xs ys : List A) (k : ℕ) (y : A)
    → slice_get (xs ++ ys) k ≡ Some y
    → (slice_get xs k ≡ Some y) ⊎ ((j : ℕ) × (slice_get ys j ≡ Some y))
at-append [] ys k y there = inr (k, there)
at-append (x ∷ xs) ys zero y there = inl there
at-append (x ∷ xs) ys (suc k) y there = at-append xs ys k y there

pub at-front : {A : Type 0} (xs ys : List A) (k : ℕ) (y : A)
    → slice_get xs k ≡ Some y
    → slice_get (xs ++ ys) k ≡ Some y
at-front [] ys k y there = absurd cc
at-front (x ∷ xs) ys zero y there = there
at-front (x ∷ xs) ys (suc k) y there = at-front xs ys k y there

pub at-back : {A : Type 0} (xs ys : List A) (j : ℕ) (y : A)
    → slice_get ys j ≡ Some y
    → (k : ℕ) × (slice_get (xs ++ ys) k ≡ Some y)
at-back [] ys j y there = (j, there)
at-back (x ∷ xs) ys j y there =
    let rest = at-back xs ys j y there in
    (suc rest.0, rest.1)

-- what a function of an entry is
pub entry-of : {A B : Type 0} (f : A → B) (o : Option A) (y : B)
    → option_map f o ≡ Some y
    → (a : A) × (o ≡ Some a) × (f a ≡ y)
entry-of f None y is = absurd cc
entry-of f (Some a) y is = (a, refl, cc)

-- what holds at each place holds of all
pub all-at : {A : Type 0} (P : A → Type 0) (xs : List A)
    → AllByRecursion P xs
    → (k : ℕ) (x : A)
    → slice_get xs k ≡ Some x
    → P x
all-at P [] all k x there = absurd cc
all-at P (y ∷ xs) all zero x there =
    let same : y ≡ x = cc in
    subst P same all.0
all-at P (y ∷ xs) all (suc k) x there = all-at P xs all.1 k x there

-- what holds from a place on holds of the rest
pub all-behind : {A : Type 0} (P : A → Type 0) (n : ℕ) (xs : List A)
    → ((k : ℕ) (x : A) → slice_get xs k ≡ Some x → n ≤ k → P x)
    → AllByRecursion P (drop n xs)
all-behind P zero [] each = tt
all-behind P zero (x ∷ xs) each = (
  each 0 x refl (omega arith),
  all-behind P zero xs (λ k y there from. each (suc k) y there (omega arith)),
)
all-behind P (suc n) [] each = tt
all-behind P (suc n) (x ∷ xs) each =
    all-behind P n xs (λ k y there from. each (suc k) y there (omega (arith, from)))
