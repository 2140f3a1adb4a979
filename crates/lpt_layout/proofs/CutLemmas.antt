-- What is cut out of lists that stand one behind the other.
use Rattle.std.proofs.Common.{◌≡◌, ◌∙◌, ap, ℕ, ◌+◌, ◌≤◌, List, ◌++◌, length, take, drop, arith, length-append, length-drop}
use Rattle.std.proofs.lemmas.List.{take-append-le, drop-append-le, take_all, drop_all}

-- a cut that ends within the first list is one of it
pub cut_front : (i n : ℕ) (xs ys : List ℕ)
    → i + n ≤ length xs
    → take n (drop i (xs ++ ys)) ≡ take n (drop i xs)
cut_front i n xs ys h =
    ap (take n) (drop-append-le i xs ys (omega arith))
    ∙ take-append-le n (drop i xs) ys (omega (arith, length-drop i xs))

-- what is left behind the first list is the second
pub drop_front : (i : ℕ) (xs ys : List ℕ) → length xs ≡ i → drop i (xs ++ ys) ≡ ys
drop_front i xs ys h =
    drop-append-le i xs ys (omega arith)
    ∙ ap (λ zs. zs ++ ys) (drop_all i xs (omega arith))

-- the second of two lists
pub cut_last : (i n : ℕ) (xs ys : List ℕ)
    → length xs ≡ i
    → length ys ≡ n
    → take n (drop i (xs ++ ys)) ≡ ys
cut_last i n xs ys h k = ap (take n) (drop_front i xs ys h) ∙ take_all n ys (omega arith)

-- the second of three
pub cut_second : (i n : ℕ) (a b c : List ℕ)
    → length a ≡ i
    → length b ≡ n
    → take n (drop i ((a ++ b) ++ c)) ≡ b
cut_second i n a b c h k =
    cut_front i n (a ++ b) c (omega (arith, length-append a b)) ∙ cut_last i n a b h k
