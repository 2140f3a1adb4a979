-- What is given of a source from one place up to another.
use Rattle.std.proofs.Common.{◌≡◌, ◌∙◌, ap, sym, ℕ, ◌+◌, ◌-◌, ◌≤◌, List, [], ◌++◌, length, take, drop, Option, Some, None, arith, drop_of_length-le, length-take}
use Rattle.std.proofs.lemmas.List.{take_all}
use Rattle.std.specs.Option.{option_map}
use Rattle.std.specs.Io.KnownBytes.{Consumes, IsAtEnd, Keeps}
use Rattle.std.proofs.Math.Seq.{drop-append-add, take-append-add}
use Rattle.lpt_io.specs.Spans.{cut_out, octets_taken}

-- so many octets of a room that has them
pub front-length : (n : ℕ) (room : List ℕ) → n ≤ length room → length (take n room) ≡ n
front-length n room within = let cut = length-take n room in omega (arith, cut, within)

-- octets in front are passed over, and what is given stays
pub span-passed : (k a b : Option (List ℕ)) (before n : ℕ) (left : Option ℕ) (bs : List ℕ)
    → Keeps k (option_map (cut_out before left) a)
    → Consumes a b bs
    → length bs ≡ n
    → n ≤ before
    → Keeps k (option_map (cut_out (before - n) left) b)
span-passed None a b before n left bs kept came size within = tt
span-passed (Some z) None b before n left bs kept came size within = absurd kept
span-passed (Some z) (Some x) None before n left bs kept came size within = absurd came
span-passed (Some z) (Some x) (Some y) before n left bs kept came size within =
    let sum : before ≡ length bs + (before - n) = omega (arith, size, within) in
    ap (λ f. octets_taken left f)
    (sym (drop-append-add bs y (before - n))
    ∙ ap (λ k. drop k (bs ++ y)) (sym sum)
    ∙ ap (drop before) (sym came))
    ∙ kept

-- octets are given where none is passed over any more
pub span-given : (a b : Option (List ℕ)) (before : ℕ) (room : Option ℕ) (left n : ℕ)
    → (bs got : List ℕ)
    → before ≡ 0
    → room ≡ Some left
    → Consumes a b bs
    → got ≡ bs
    → length bs ≡ n
    → n ≤ left
    → Consumes (option_map (cut_out before room) a)
    (option_map (cut_out before (Some (left - n))) b) got
span-given None b before room left n bs got none some came is size within = tt
span-given (Some x) None before room left n bs got none some came is size within = absurd came
span-given (Some x) (Some y) before room left n bs got none some came is size within =
    let sum : left ≡ length bs + (left - n) = omega (arith, size, within) in
    ap (λ r. octets_taken r (drop before x)) some
    ∙ ap (λ k. take left (drop k x)) none
    ∙ ap (take left) came
    ∙ ap (λ k. take k (bs ++ y)) sum
    ∙ take-append-add bs y (left - n)
    ∙ ap (λ f. f ++ take (left - n) y) (sym is)
    ∙ ap (λ k. got ++ take (left - n) (drop k y)) (sym none)

drop-none : (n : ℕ) → drop {A = ℕ} n [] ≡ []
drop-none n = drop_of_length-le [] {i = n} (omega arith)

-- at the end of the source nothing is left
pub span-ended : (before : ℕ) (left : Option ℕ) (a : Option (List ℕ))
    → IsAtEnd a
    → IsAtEnd (option_map (cut_out before left) a)
span-ended before left None end = tt
span-ended before None (Some x) end = ap (drop before) end ∙ drop-none before
span-ended before (Some n) (Some x) end =
    ap (λ f. take n (drop before f)) end
    ∙ ap (take n) (drop-none before)
    ∙ take_all n [] (omega arith)
