-- How a text is read, and which part of it is lines.
use Rattle.std.specs.Prelude.{◌≡◌, ℕ, ◌≤◌, ◌<◌, ◌⊎◌, [], ◌∷◌, ◌++◌, ◌+◌, Bool, true, List, length, Option, None}
use Rattle.std.specs.Io.KnownBytes.{Consumes, IsAtEnd}
use Rattle.lpt_text.specs.Lines.{line_end}
use Rattle.lpt_text.specs.Texts.{longest_line, longest_text}
use Rattle.lpt_text.specs.declared.reading.End.{End}
use Rattle.lpt_text.specs.declared.reading.End.TheVariants.{Whole, Failed, TooLong}

-- the text was consumed, to the end of what there is, or to a fault of a read, or past the limit
abbrev pub ReadTo : End → List ℕ → Option (List ℕ) → Option (List ℕ) → Bool → Bool → Type 0
ReadTo Whole text old new before failed =
    Consumes old new text × IsAtEnd new × (length text ≤ longest_text) × (failed ≡ before)
ReadTo Failed text old new before failed =
    Consumes old new text × (failed ≡ true) × (length text ≤ longest_text)
ReadTo TooLong text old new before failed =
    Consumes old new text × (longest_text < length text) × (failed ≡ before)

-- the text is what there was to read, all of it, at most the limit
abbrev pub IsWhole : Option (List ℕ) → Option (List ℕ) → (List ℕ → Type 0) → Type 0
IsWhole old new P =
    (text : List ℕ) × Consumes old new text × IsAtEnd new × (length text ≤ longest_text) × P text

-- what was read has no more octets than a text may have
abbrev pub IsWithin : Option (List ℕ) → Option (List ℕ) → Type 0
IsWithin old new = (read : List ℕ) × Consumes old new read × (length read ≤ longest_text)

-- the text is empty or ends with a line end
abbrev pub EndsLine : List ℕ → Type 0
EndsLine text = (text ≡ []) ⊎ ((line : List ℕ) × (text ≡ line ++ 10 ∷ []))

-- the text is lines, and so much of one more that this is longer than a line may be
abbrev pub EndsLong : List ℕ → Type 0
EndsLong text =
    (front : List ℕ) × (line : List ℕ) × (text ≡ front ++ line) × EndsLine front
    × (line_end line ≡ None) × (longest_line < length line)

-- the text is a front part of what was read: lines, perhaps with so much of one more that this is
-- too long, or all that there was to read
abbrev pub IsFront : Option (List ℕ) → Option (List ℕ) → (List ℕ → Type 0) → Type 0
IsFront old new P =
    (text : List ℕ) × (more : List ℕ) × Consumes old new (text ++ more)
    × (((more ≡ []) × IsAtEnd new) ⊎ (EndsLine text ⊎ EndsLong text))
    × (length text ≤ longest_text) × P text

-- the text is the lines that were read before a read failed, or before more came than a text may
-- have; the line that this cuts isn't too long so far
abbrev pub IsCutFront : Option (List ℕ) → Option (List ℕ) → Bool → (List ℕ → Type 0) → Type 0
IsCutFront old new failed P =
    (text : List ℕ) × (cut : List ℕ) × (over : List ℕ) × Consumes old new (text ++ (cut ++ over))
    × EndsLine text × (line_end cut ≡ None) × (length cut ≤ longest_line)
    × (length text + length cut ≤ longest_text)
    × (((over ≡ []) × (failed ≡ true))
    ⊎ ((length text + length cut ≡ longest_text) × (0 < length over)))
    × P text

-- The same if so much of a last line is among them as shows that it is too long.
abbrev pub IsCutShort : Option (List ℕ) → Option (List ℕ) → Bool → (List ℕ → Type 0) → Type 0
IsCutShort old new failed P =
    (text : List ℕ) × (cut : List ℕ) × (over : List ℕ) × Consumes old new (text ++ (cut ++ over))
    × (EndsLine text ⊎ EndsLong text) × (line_end cut ≡ None) × (length cut ≤ longest_line)
    × (length text + length cut ≤ longest_text)
    × (((over ≡ []) × (failed ≡ true))
    ⊎ ((length text + length cut ≡ longest_text) × (0 < length over)))
    × P text
