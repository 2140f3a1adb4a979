-- Pieces of a text that are taken: lines, or parts of one that is too long.
use Rattle.std.specs.Prelude.{◌≡◌, ◌⊎◌, ◌+◌, ◌∷◌, ◌++◌, ℕ, Bool, true, false, not, List, length, take, Option, None, Some}
use Rattle.std.specs.Int.{from_bool}
use Rattle.std.specs.Io.KnownBytes.{Appends}
use Rattle.lpt_text.specs.Taking.{IsBehind, Stories, behind, failures, unless_last}
use Rattle.lpt_text.specs.Texts.{ended_line}
use Rattle.lpt_text.specs.declared.taking.Taken.{Taken}

-- the line in front of what is held, and with how many octets it ends there: up to the line end, or
-- all
abbrev pub IsPiece : (place : Option ℕ) → (held line : List ℕ) → (len : ℕ) → Type 0
IsPiece None held line len = (line ≡ held) × (len ≡ length held)
IsPiece (Some n) held line len = (line ≡ ended_line (take n held)) × (len ≡ n + 1)

-- the line and those behind it, or these alone if it was taken by its front
abbrev pub piece_lines : (is_taken : Bool) → List ℕ → List (List ℕ) → List (List ℕ)
piece_lines true line more = more
piece_lines false line more = line ∷ more

-- a piece was taken, unless its line was by its front
abbrev pub TakesPiece :
    {T X : Type 0} → Stories T X → (is_taken : Bool) → (old new : T) → (number : ℕ) → List ℕ → Taken
    → (before after : Option (List ℕ)) → Type 0
TakesPiece story is_taken old new number line taken before after =
    (text : List ℕ) × Appends before after text
    × ((rest : List ℕ) (failed : ℕ) (more : List (List ℕ)) → IsBehind line rest
    → story old (piece_lines is_taken (line ++ rest) more) number failed
    ≡ behind text
    (story new (unless_last taken more) (number + from_bool (not is_taken))
    (failed + failures taken)))
