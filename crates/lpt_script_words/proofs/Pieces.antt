-- The words of a line.
use Rattle.std.proofs.Common.{◌≡◌, ◌≢◌, ℕ, zero, suc, ◌+◌, ◌<◌, ◌==◌, true, List, [], ◌∷◌, length, take, drop, get_or, position, Some, None, refl, arith, slice_index}
use Rattle.std.proofs.lemmas.Bool.{eqb-true}
use Rattle.std.proofs.lemmas.List.{length-take-le}
use Rattle.std.proofs.lemmas.List.Quantifiers.{position-Some}
use Rattle.lpt_text.proofs.Pieces.{filled, slice_split-nowhere, slice_split-place}
use Rattle.lpt_script_words.specs.Words.{words}

-- what doesn't begin with a space has its first one later
after_start : (xs : List ℕ) (n : ℕ)
    → (get_or xs n 0 == 32) ≡ true
    → slice_index xs 0 ≢ 32
    → 0 < n
after_start xs zero h begins = absurd (begins (eqb-true (get_or xs 0 0) 32 h))
after_start xs (suc n) h begins = omega arith

-- a text that begins with a word has it up to its first space
pub words-place : (xs : List ℕ) (n : ℕ)
    → position (λ b. b == 32) xs ≡ Some n
    → slice_index xs 0 ≢ 32
    → words xs ≡ take n xs ∷ words (drop (n + 1) xs)
words-place xs n h begins =
    let at = position-Some (λ b. b == 32) xs n 0 h in
    let within : n < length xs = at.0 in
    let some : 0 < n = after_start xs n at.1 begins in
    let has : 0 < length (take n xs) = rw (length-take-le n xs (omega arith)) some in
    rw (slice_split-place (λ b. b == 32) xs n h, filled (take n xs) has) refl

-- a text with no space is one word
pub words-nowhere : (xs : List ℕ)
    → position (λ b. b == 32) xs ≡ None
    → 0 < length xs
    → words xs ≡ xs ∷ []
words-nowhere xs h some = rw (slice_split-nowhere (λ b. b == 32) xs h, filled xs some) refl
