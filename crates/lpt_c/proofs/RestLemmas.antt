-- What stands behind a header is as long as it is said to be, and the same in the front of a
-- buffer.
use Rattle.std.proofs.Common.{◌≡◌, ◌∙◌, refl, sym, ap, ℕ, ◌+◌, ◌-◌, ◌≤◌, Bool, true, false, nat_le, if◌then◌else◌, List, length, take, drop, replicate, arith}
use Rattle.std.proofs.lemmas.List.{drop-take, length-drop, length-replicate, length-take-le, take_rest, take-take}
use Rattle.lpt_packet.proofs.BoolLemmas.{le_true, true_le}
use Rattle.lpt_c.specs.Standing.{rest_in, rest_len, standing}
use Rattle.lpt_c.specs.declared.rest.Rest.{Rest}
use Rattle.lpt_c.specs.declared.rest.Rest.TheVariants.{Given, Standing}

-- where a buffer has so many octets
stands : (at len : ℕ) (old : List ℕ)
    → at + len ≤ length old
    → standing at len old ≡ take len (drop at old)
stands at len old fits =
    ap (λ (b : Bool). if b then take len (drop at old) else replicate len 0)
    (le_true (at + len) (length old) fits)

-- where they end it
pub stands_last : (at len : ℕ) (old : List ℕ)
    → at + len ≡ length old
    → standing at len old ≡ drop at old
stands_last at len old fits =
    let all : len ≡ length old - at = omega (arith, fits) in
    stands at len old (omega (arith, fits))
    ∙ ap (λ (n : ℕ). take n (drop at old)) all
    ∙ take_rest old at

by_room : (at len : ℕ) (old : List ℕ) (b : Bool)
    → (b ≡ true → at + len ≤ length old)
    → length (if b then take len (drop at old) else replicate len 0) ≡ len
by_room at len old true fits =
    length-take-le len (drop at old) (omega (arith, fits refl, length-drop at old))
by_room at len old false fits = length-replicate len 0

length_standing : (at len : ℕ) (old : List ℕ) → length (standing at len old) ≡ len
length_standing at len old =
    by_room at len old (nat_le (at + len) (length old)) (true_le (at + len) (length old))

pub length_rest : (r : Rest) (at : ℕ) (old : List ℕ) → length (rest_in r at old) ≡ rest_len r
unfolding rest_in rest_len
length_rest (Given octets) at old = refl
length_rest (Standing len) at old = length_standing at len old

standing_front : (at len n : ℕ) (old : List ℕ)
    → at + len ≤ n
    → n ≤ length old
    → standing at len (take n old) ≡ standing at len old
standing_front at len n old fits within =
    let m = n - at in
    let whole : n ≡ at + m = omega (arith, fits) in
    let size = length-take-le n old within in
    stands at len (take n old) (omega (arith, fits, size))
    ∙ ap (λ (k : ℕ). take len (drop at (take k old))) whole
    ∙ ap (λ (xs : List ℕ). take len xs) (drop-take at m old)
    ∙ take-take len m (drop at old) (omega (arith, fits))
    ∙ sym (stands at len old (omega (arith, fits, within)))

-- the front of a buffer has the same, where it goes so far
pub rest_front : (r : Rest) (at n : ℕ) (old : List ℕ)
    → at + rest_len r ≤ n
    → n ≤ length old
    → rest_in r at (take n old) ≡ rest_in r at old
unfolding rest_in rest_len
rest_front (Given octets) at n old fits within = refl
rest_front (Standing len) at n old fits within = standing_front at len n old fits within
