-- Lines that are taken one by one: what they do, and how that ends.
use Rattle.std.specs.Prelude.{◌≡◌, ◌⊎◌, ◌+◌, ◌<◌, ◌++◌, ℕ, Bool, true, false, List, [], ◌∷◌, length, Option, Result, Ok, Err}
use Rattle.std.specs.Io.KnownBytes.{Appends}
use Rattle.lpt_text.specs.Reading.{IsCutShort, IsFront, IsWhole}
use Rattle.lpt_text.specs.Streams.{AppendsPart}
use Rattle.lpt_text.specs.Texts.{lines, longest_line}
use Rattle.lpt_text.specs.declared.fault.StreamFault.{StreamFault}
use Rattle.lpt_text.specs.declared.fault.StreamFault.TheVariants as faults
use Rattle.lpt_text.specs.declared.taking.Taken.{Taken}
use Rattle.lpt_text.specs.declared.taking.Taken.TheVariants.{Done, Failed, Over}

-- what lines do: the text that is written of them, and what they leave
pub record Story (X : Type 0) : Type 0 where
  pub text : List ℕ
  pub left : X

-- what lines do by one who takes them: the first of them has this number, and so many failed before
abbrev pub Stories : Type 0 → Type 0 → Type 0
Stories T X = T → List (List ℕ) → (number failed : ℕ) → Story X

-- the same with this text before its own
abbrev pub behind : {X : Type 0} → List ℕ → Story X → Story X
behind text s = record { text = text ++ s.text; left = s.left }

-- ---- a line

-- whether none is taken behind it
abbrev pub is_last : Taken → Bool
is_last Done = false
is_last Failed = false
is_last Over = true

-- how many failed with it
abbrev pub failures : Taken → ℕ
failures Done = 0
failures Failed = 1
failures Over = 0

-- the lines that are taken behind it
abbrev pub unless_last : Taken → List (List ℕ) → List (List ℕ)
unless_last Done more = more
unless_last Failed more = more
unless_last Over more = []

-- these octets may be behind others in a line of which those were taken: none, or any if the
-- line is too long
abbrev pub IsBehind : List ℕ → List ℕ → Type 0
IsBehind front rest = (rest ≡ []) ⊎ (longest_line < length front)

-- a line was taken: what it and those behind it do is what was written, and then what those do
abbrev pub TakesLine :
    {T X : Type 0} → Stories T X → (old new : T) → (number : ℕ) → List ℕ → Taken
    → (before after : Option (List ℕ)) → Type 0
TakesLine story old new number line taken before after =
    (text : List ℕ) × Appends before after text
    × ((rest : List ℕ) (failed : ℕ) (more : List (List ℕ)) → IsBehind line rest
    → story old ((line ++ rest) ∷ more) number failed
    ≡ behind text (story new (unless_last taken more) (number + 1) (failed + failures taken)))

-- a front part of what a line does was written
abbrev pub BreaksLine :
    {T X : Type 0} → Stories T X → T → (number : ℕ) → List ℕ → (before after : Option (List ℕ))
    → Type 0
BreaksLine story old number line before after =
    (failed : ℕ) (more : List (List ℕ))
    → AppendsPart before after (story old (line ∷ more) number failed).text

-- ---- all lines

-- what the lines of a text do was written, and so many of them failed
abbrev pub TakesText :
    {T X : Type 0} → Stories T X → (old new : T) → List ℕ → (failed : ℕ)
    → (before after : Option (List ℕ)) → Type 0
TakesText story old new text failed before after =
    (number : ℕ) × (written : List ℕ)
    × (story old (lines text) 1 0 ≡ behind written (story new [] number failed))
    × Appends before after written

-- all that there was to read was taken, or up to a line behind which none is
abbrev pub IsTaken : (is_over : Bool) → Option (List ℕ) → Option (List ℕ) → (List ℕ → Type 0)
    → Type 0
IsTaken false old new P = IsWhole old new P
IsTaken true old new P = IsFront old new P

-- How the taking of lines ends. Ok: all lines were taken, or those up to the last that is. Read: a
-- read failed or more came than a text may have, behind lines that were taken. Write, Memory: a
-- front part of what the lines do was written.
abbrev pub LinesTaken :
    {T X : Type 0} → Stories T X → (old new : T) → (is_over : Bool) → Result ℕ StreamFault
    → (read_before read_after written_before written_after : Option (List ℕ)) → (read_failed : Bool)
    → Type 0
LinesTaken story s t is_over (Ok failed) old new before after read_failed =
    IsTaken is_over old new (λ text. TakesText story s t text failed before after)
LinesTaken story s t is_over (Err faults.Read) old new before after read_failed =
    (is_over ≡ false)
    × IsCutShort old new read_failed (λ text. (failed : ℕ)
    × TakesText story s t text failed before after)
LinesTaken story s t is_over (Err faults.Write) old new before after read_failed =
    IsFront old new (λ text. AppendsPart before after (story s (lines text) 1 0).text)
LinesTaken story s t is_over (Err faults.Memory) old new before after read_failed =
    IsFront old new (λ text. AppendsPart before after (story s (lines text) 1 0).text)
