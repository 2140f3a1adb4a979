-- The numbers that digits spell, a digit at a time.
use Rattle.std.proofs.Common.{◌≡◌, ℕ, ◌+◌, ◌-◌, ◌*◌, ◌<◌, ◌≤◌, ◌^◌, List, [], ◌∷◌, ◌++◌, length, take, get_or, arith, true, length-append, add-one, pow-suc}
use Rattle.std.proofs.Math.Nat.{pow-le-pow_right}
use Rattle.std.proofs.lemmas.List.{take_more}
use Rattle.std.proofs.lemmas.List.Sums.{AllPass-from_list_all}
use Rattle.std.proofs.lemmas.Bool.Decides.{nat_tests}
use Rattle.std.specs.Char.{is_ascii_digit}
use Rattle.std.specs.List.{list_all}
use Rattle.lpt_script_words.specs.Numbers.{number_spelled}

-- a digit more stands for itself, and each before it for ten times as much
pub spelled-push : (xs : List ℕ) (d : ℕ) → number_spelled (xs ++ d ∷ []) ≡ number_spelled xs * 10
    + (d - 48)
spelled-push [] d = grind arith
spelled-push (x ∷ xs) d =
    let more = spelled-push xs d in
    let place : 10 ^ length (xs ++ d ∷ []) ≡ 10 ^ length xs * 10 =
    rw (length-append, add-one, pow-suc) (omega arith)
    in
    rw (place, more) (omega arith)

-- the same at a place of a word
pub spelled_more : (xs : List ℕ) (i : ℕ)
    → i < length xs
    → number_spelled (take (i + 1) xs) ≡ number_spelled (take i xs) * 10 + (get_or xs i 0 - 48)
spelled_more xs i h =
    rw (take_more xs i 0 h) (spelled-push (take i xs) (get_or xs i 0))

-- a digit more is less than one place more
pub place_more : (n d i : ℕ) → n < 10 ^ i → d < 10 → n * 10 + d < 10 ^ (i + 1)
place_more n d i h small = rw (add-one, pow-suc) (omega arith)

-- ten places fit a number of 64 bits
pub places_fit : (n i : ℕ) → n < 10 ^ i → i < 10 → n * 10 + 9 < 10 ^ 10
places_fit n i h few =
    let bound : 10 ^ i ≤ 10 ^ 9 =
    pow-le-pow_right {n = 10} (omega arith) {i = i} {j = 9} (omega arith)
    in
    omega arith

-- what is a digit stands for less than ten
pub digit_value_small : (xs : List ℕ) (i : ℕ)
    → list_all is_ascii_digit xs ≡ true
    → i < length xs
    → get_or xs i 0 - 48 < 10
digit_value_small xs i digits h =
    let is = AllPass-from_list_all is_ascii_digit xs digits i 0 h in
    grind (arith, nat_tests)
