-- The lines of a text, and how long a line and a text may be.
use Rattle.std.specs.Prelude.{ℕ, List, [], ◌∷◌, Bool, true, false, if◌then◌else◌, nat_lt, length, ◌==◌}
use Rattle.std.specs.List.{slice_split}
use Rattle.std.specs.Str.Lines.{strip_carriage_return}

-- the most octets of a line, with the carriage return that its line feed drops
abbrev pub longest_line : ℕ
longest_line = 140000

-- the most octets of a text
abbrev pub longest_text : ℕ
longest_text = 16777216

-- whether a piece has an octet
abbrev pub is_filled : List ℕ → Bool
is_filled [] = false
is_filled (b ∷ bs) = true

-- what a line feed ends, without one carriage return; what is too long to be read keeps it
abbrev pub ended_line : List ℕ → List ℕ
ended_line piece = if nat_lt 140000 (length piece) then piece else strip_carriage_return piece

-- the lines of the pieces between line feeds: an empty last piece is none
abbrev pub lines_of_pieces : List (List ℕ) → List (List ℕ)
lines_of_pieces [] = []
lines_of_pieces (piece ∷ []) = if is_filled piece then piece ∷ [] else []
lines_of_pieces (piece ∷ next ∷ more) = ended_line piece ∷ lines_of_pieces (next ∷ more)

-- the lines of a text
abbrev pub lines : List ℕ → List (List ℕ)
lines text = lines_of_pieces (slice_split (λ b. b == 10) text)
