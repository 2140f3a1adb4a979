-- The first octets of all that was read.
use Rattle.std.proofs.Common.{◌≡◌, ◌∙◌, ap, sym, ℕ, ◌+◌, ◌-◌, ◌<◌, ◌≤◌, ◌⊎◌, inl, inr, List, ◌++◌, length, take, append-nil, arith}
use Rattle.std.proofs.lemmas.Bool.{cases_lt}
use Rattle.std.proofs.lemmas.List.{take_all}
use Rattle.std.proofs.Math.Seq.{take-append-add, take-append-le}

-- the first octets of some, and of others behind them
pub take-behind : (n : ℕ) (xs ys : List ℕ)
    → take n (xs ++ ys) ≡ take n xs ++ take (n - length xs) ys
take-behind n xs ys = by (cases_lt (length xs) n)
  where
    by : (length xs < n) ⊎ (n ≤ length xs)
        → take n (xs ++ ys) ≡ take n xs ++ take (n - length xs) ys
    by (inl behind) =
        let sum : n ≡ length xs + (n - length xs) = omega arith in
        ap (λ k. take k (xs ++ ys)) sum
        ∙ take-append-add xs ys (n - length xs)
        ∙ ap (λ front. front ++ take (n - length xs) ys) (sym (take_all n xs (omega arith)))
    by (inr within) =
        let none : n - length xs ≡ 0 = omega arith in
        take-append-le n xs ys within
        ∙ sym (append-nil (take n xs))
        ∙ ap (λ k. take n xs ++ take k ys) (sym none)

-- octets that were read behind others are kept as far as there is room
pub first_kept : (most : ℕ) (before more : List ℕ) (kept : List ℕ) (room : ℕ)
    → kept ≡ take most before
    → room ≡ most - length before
    → kept ++ take room more ≡ take most (before ++ more)
first_kept most before more kept room is left =
    (λ i. is i ++ take (left i) more) ∙ sym (take-behind most before more)
