-- The first octet that passes the test is at the position of the first that is equal.
use Rattle.std.proofs.Common.{◌≡◌, ◌∙◌, ap, sym, refl, ℕ, ◌<◌, ◌≤◌, ◌==◌, Bool, true, false, cond, nat_lt, List, length, get_or, Option, Some, None, position, arith}
use Rattle.std.specs.List.{position_or_len}
use Rattle.std.proofs.lemmas.List.Sums.{position_or_len_is}
use Rattle.std.proofs.lemmas.Bool.Decides.{nat_tests}
use Rattle.memchr.specs.Find.{IsFirstByte, is_byte, Nowhere, Passes}
use Rattle.lpt_text.proofs.line_end.first_place.Goals as goal

fails : (b : Bool) → (b ≡ true → ⊥) → b ≡ false
fails true h = absurd (h refl)
fails false h = refl

counted : (p : ℕ → Bool) (xs : List ℕ) (n : ℕ) (r : Option ℕ)
    → position_or_len p xs ≡ n
    → cond (nat_lt n (length xs)) (Some n) None ≡ r
    → r ≡ position p xs
counted p xs n r e h = sym h ∙ ap (λ (k : ℕ). cond (nat_lt k (length xs)) (Some k) None) (sym e)

first_is : (octet : ℕ) (xs : List ℕ) (r : Option ℕ)
    → IsFirstByte (is_byte octet) xs r
    → r ≡ position (λ b. b == octet) xs
first_is octet xs None h =
    let test : (nat_lt (length xs) (length xs)) ≡ false = grind (arith, nat_tests) in
    counted (λ b. b == octet) xs (length xs) None
    (position_or_len_is (λ b. b == octet) xs (length xs) 0 (omega arith)
    (λ k l. fails (get_or xs k 0 == octet) (h k (omega arith) l)) (λ l. absurd (omega arith)))
    (ap (λ b. cond b (Some (length xs)) None) test)
first_is octet xs (Some n) h =
    let high : n < length xs = h.0.high in
    let test : (nat_lt n (length xs)) ≡ true = grind (arith, nat_tests) in
    counted (λ b. b == octet) xs n (Some n)
    (position_or_len_is (λ b. b == octet) xs n 0 (omega arith)
    (λ k l. fails (get_or xs k 0 == octet) (h.0.before k (omega arith) l)) (λ l. h.1))
    (ap (λ b. cond b (Some n) None) test)

pub returns-clause-at : goal.returns-clause-at
returns-clause-at c = first_is c.args.octet c.args.text.now c.memchr.result c.memchr.ensures
