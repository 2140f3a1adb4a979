-- The lines of a text, found as it comes.
use Rattle.std.specs.Prelude.{◌≡◌, ◌<◌, ◌≤◌, ◌⊎◌, ◌==◌, ◌+◌, ◌++◌, ℕ, Bool, true, false, List, [], length, drop, position, Option, Some, None, Result, Ok, Err}
use Rattle.std.specs.Io.KnownBytes.{Consumes, IsAtEnd}
use Rattle.lpt_text.specs.Texts.{longest_line}
use Rattle.lpt_text.specs.declared.fault.StreamFault.{StreamFault}
use Rattle.lpt_text.specs.declared.fault.StreamFault.TheVariants as faults
use Rattle.lpt_text.specs.declared.lines.LineBuffer.{LineBuffer}

-- the octets that were read and not passed over yet
abbrev pub octets_held : LineBuffer → List ℕ
octets_held b = drop b.start b.octets.items

-- how many more octets the text may have
abbrev pub room_of : LineBuffer → ℕ
room_of b = b.room

-- the place of the first line end
abbrev pub line_end : List ℕ → Option ℕ
line_end text = position (λ b. b == 10) text

-- octets were read, and are held behind the rest; others came over the limit, and are lost
pub record Adds (old new : LineBuffer) (before after : Option (List ℕ))
    (read over : List ℕ) : Type 0 where
  pub consumed : Consumes before after (read ++ over)
  pub behind : octets_held new ≡ octets_held old ++ read
  pub counted : room_of new + length read ≡ room_of old

-- why no more is read: a read failed, or octets came over the limit
abbrev pub IsCut : LineBuffer → (over : List ℕ) → (had failed : Bool) → Type 0
IsCut new over had failed =
    ((over ≡ []) × (failed ≡ true)) ⊎ ((room_of new ≡ 0) × (0 < length over) × (failed ≡ had))

-- what a read gives: octets; or none, at the end of the text; or that it was cut
abbrev pub Fills :
    Result Bool StreamFault → (old new : LineBuffer) → (before after : Option (List ℕ))
    → (had failed : Bool) → Type 0
Fills (Ok true) old new before after had failed =
    (read : List ℕ) × Adds old new before after read [] × (0 < length read) × (failed ≡ had)
Fills (Ok false) old new before after had failed =
    Adds old new before after [] [] × IsAtEnd after × (failed ≡ had)
Fills (Err faults.Read) old new before after had failed =
    (over : List ℕ) × Adds old new before after [] over × IsCut new over had failed
Fills (Err faults.Memory) old new before after had failed =
    (lost : List ℕ) × Consumes before after lost × (failed ≡ had)
Fills (Err faults.Write) old new before after had failed = ⊥

-- what a search for a line end gives: the place of the first that is held; or that none is held,
-- at the end of the text or of what a line may have; or that the text was cut within a line
abbrev pub FindsLine :
    Result (Option ℕ) StreamFault → (old new : LineBuffer) → (before after : Option (List ℕ))
    → (had failed : Bool) → Type 0
FindsLine (Ok (Some n)) old new before after had failed =
    (read : List ℕ) × Adds old new before after read [] × (line_end (octets_held new) ≡ Some n)
    × (n < length (octets_held new)) × (failed ≡ had)
FindsLine (Ok None) old new before after had failed =
    (read : List ℕ) × Adds old new before after read [] × (line_end (octets_held new) ≡ None)
    × (IsAtEnd after ⊎ (longest_line < length (octets_held new))) × (failed ≡ had)
FindsLine (Err faults.Read) old new before after had failed =
    (read : List ℕ) × (over : List ℕ) × Adds old new before after read over
    × (line_end (octets_held new) ≡ None) × (length (octets_held new) ≤ longest_line)
    × IsCut new over had failed
FindsLine (Err faults.Write) old new before after had failed =
    (lost : List ℕ) × Consumes before after lost × (failed ≡ had)
FindsLine (Err faults.Memory) old new before after had failed =
    (lost : List ℕ) × Consumes before after lost × (failed ≡ had)
