-- Rows of numbers, one after another.
use Rattle.std.proofs.Common.{◌≡◌, ◌∙◌, ap, sym, ℕ, zero, suc, ◌+◌, List, ◌++◌, append_assoc, append-nil, flat_map, arith}
use Rattle.std.specs.List.{range_with_len}

-- so many numbers and one more
range_more : (f : ℕ → List ℕ) (a n : ℕ)
    → flat_map f (range_with_len a (suc n)) ≡ flat_map f (range_with_len a n) ++ f (a + n)
range_more f a zero =
    let e : a + zero ≡ a = omega arith in
    append-nil (f a) ∙ ap f (sym e)
range_more f a (suc n) =
    let e : a + 1 + n ≡ a + suc n = omega arith in
    ap (λ x. f a ++ x) (range_more f (a + 1) n)
    ∙ sym (append_assoc (f a) (flat_map f (range_with_len (a + 1) n)) (f (a + 1 + n)))
    ∙ ap (λ k. (f a ++ flat_map f (range_with_len (a + 1) n)) ++ f k) e

-- a text with the rows of so many numbers behind it, and the next row
pub rows_next : (f : ℕ → List ℕ) (a k at next : ℕ) (old now new : List ℕ)
    → at ≡ a + k
    → next ≡ suc k
    → now ≡ old ++ flat_map f (range_with_len a k)
    → new ≡ now ++ f at
    → new ≡ old ++ flat_map f (range_with_len a next)
rows_next f a k at next old now new is more had add =
    add
    ∙ ap (λ x. x ++ f at) had
    ∙ append_assoc old (flat_map f (range_with_len a k)) (f at)
    ∙ ap (λ n. old ++ (flat_map f (range_with_len a k) ++ f n)) is
    ∙ ap (λ x. old ++ x) (sym (range_more f a k))
    ∙ ap (λ n. old ++ flat_map f (range_with_len a n)) (sym more)
