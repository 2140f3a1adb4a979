-- What joined and turned tests say, and tests of numbers and of what is there.
use Rattle.std.proofs.Common.{◌≡◌, refl, ℕ, zero, suc, ◌<◌, ◌≤◌, ◌==◌, nat_lt, nat_le, Bool, true, false, not, ◌&&◌, ◌||◌, Option, Some, None, is_some, arith}
use Rattle.std.specs.Option.{option_map}
use Rattle.std.proofs.lemmas.Bool.Decides.{nat_tests}

-- ---- both tests

-- where both hold, the first does
pub and_left : (a b : Bool) → (a && b) ≡ true → a ≡ true
and_left true b h = refl
and_left false b h = absurd cc

-- where both hold, the second does
pub and_right : (a b : Bool) → (a && b) ≡ true → b ≡ true
and_right true b h = h
and_right false b h = absurd cc

-- where each holds, both do
pub and_both : (a b : Bool) → a ≡ true → b ≡ true → (a && b) ≡ true
and_both true b h k = k
and_both false b h k = absurd cc

-- what never holds doesn't hold with another
pub and_false : (a : Bool) → (a && false) ≡ false
and_false true = refl
and_false false = refl

-- what always holds asks nothing more
pub and_true : (a : Bool) → (a && true) ≡ a
and_true true = refl
and_true false = refl

-- ---- one of the tests

-- where the first holds, one does
pub or_left : (a b : Bool) → a ≡ true → (a || b) ≡ true
or_left true b h = refl
or_left false b h = absurd cc

-- where the second holds, one does
pub or_right : (a b : Bool) → b ≡ true → (a || b) ≡ true
or_right true b h = refl
or_right false b h = h

-- where none holds, the first doesn't
pub or_false_left : (a b : Bool) → (a || b) ≡ false → a ≡ false
or_false_left true b h = h
or_false_left false b h = refl

-- where none holds, the second doesn't
pub or_false_right : (a b : Bool) → (a || b) ≡ false → b ≡ false
or_false_right true b h = absurd cc
or_false_right false b h = h

-- what never holds adds nothing
pub or_false : (a : Bool) → (a || false) ≡ a
or_false true = refl
or_false false = refl

-- what always holds suffices
pub or_true : (a : Bool) → (a || true) ≡ true
or_true true = refl
or_true false = refl

-- of three tests it doesn't matter which two are joined first
pub or_assoc : (a b c : Bool) → ((a || b) || c) ≡ (a || (b || c))
or_assoc true b c = refl
or_assoc false b c = refl

-- ---- a test that is turned

-- what is not true is false
pub not_true : (a : Bool) → not a ≡ true → a ≡ false
not_true true h = absurd cc
not_true false h = refl

-- what is not false is true
pub not_false : (a : Bool) → not a ≡ false → a ≡ true
not_false true h = refl
not_false false h = absurd cc

-- ---- tests of numbers

-- the test of a smaller number holds
pub lt_true : (a b : ℕ) → a < b → nat_lt a b ≡ true
lt_true a b h = grind (arith, nat_tests)

-- the test of a number that isn't greater holds
pub le_true : (a b : ℕ) → a ≤ b → nat_le a b ≡ true
le_true a b h = grind (arith, nat_tests)

-- where the test holds, the number isn't greater
pub true_le : (a b : ℕ) → nat_le a b ≡ true → a ≤ b
true_le a b h = grind (arith, nat_tests)

-- where the test holds, the number is smaller
pub true_lt : (a b : ℕ) → nat_lt a b ≡ true → a < b
true_lt a b h = grind (arith, nat_tests)

-- 0 follows no number
pub zero_suc : (n : ℕ) → (zero == suc n) ≡ false
zero_suc n = grind (arith, nat_tests)

-- what follows a number isn't 0
pub suc_zero : (n : ℕ) → (suc n == zero) ≡ false
suc_zero n = grind (arith, nat_tests)

-- what follows two numbers is the same where they are
pub same_suc : (n m : ℕ) → (suc n == suc m) ≡ (n == m)
same_suc n m = grind (arith, nat_tests)

-- ---- what is there

-- where something is there, it is that
pub some_is : {A : Type 0} (o : Option A) → is_some o ≡ true → (x : A) × (o ≡ Some x)
some_is None h = absurd cc
some_is (Some x) h = (x, refl)

-- where nothing is there, it is nothing
pub none_is : {A : Type 0} (o : Option A) → is_some o ≡ false → o ≡ None
none_is None h = refl
none_is (Some x) h = absurd cc

-- what is computed of something is there where that is
pub is_some-map : {A B : Type 0} (f : A → B) (o : Option A) → is_some (option_map f o) ≡ is_some o
is_some-map f None = refl
is_some-map f (Some x) = refl
