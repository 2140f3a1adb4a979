-- The words of a line.
use Rattle.std.specs.Prelude.{ℕ, List, [], ◌∷◌, Bool, true, false, if◌then◌else◌, filter, ◌==◌, Option, Some, None}
use Rattle.std.specs.List.{slice_split}
use Rattle.std.specs.Option.{option_map}
use Rattle.lpt_text.specs.Texts.{is_filled}

-- the pieces between spaces that aren't empty
abbrev pub words : List ℕ → List (List ℕ)
words line = filter is_filled (slice_split (λ b. b == 32) line)

-- whether there are no words
abbrev pub is_empty : List (List ℕ) → Bool
is_empty [] = true
is_empty (w ∷ ws) = false

-- the word that stands alone
abbrev pub one_of : List (List ℕ) → Option (List ℕ)
one_of [] = None
one_of (w ∷ ws) = if is_empty ws then Some w else None

-- two words alone
abbrev pub two_of : List (List ℕ) → Option (List ℕ × List ℕ)
two_of [] = None
two_of (w ∷ ws) = option_map (λ v. (w, v)) (one_of ws)

-- three words alone
abbrev pub three_of : List (List ℕ) → Option (List ℕ × List ℕ × List ℕ)
three_of [] = None
three_of (w ∷ ws) = option_map (λ v. (w, v.0, v.1)) (two_of ws)
