-- A world on which lines are run, as its struct has it.
use Rattle.std.specs.Prelude.{◌≡◌, ℕ, Bool, List, Option, Result, Ok, Err, is_some}
use Rattle.std.specs.Int.{from_bool}
use Rattle.std.specs.Io.KnownBytes.{Appends}
use Rattle.lpt_text.specs.Streams.{AppendsPart}
use Rattle.lpt_text.specs.Taking.{Story, failures}
use Rattle.lpt_text.specs.declared.fault.StreamFault.{StreamFault}
use Rattle.lpt_text.specs.declared.fault.StreamFault.TheVariants as faults
use Rattle.lpt_text.specs.declared.taking.Taken.{Taken}
use Rattle.lpt_world.specs.Worlds.{Shown}
use Rattle.lpt_script.specs.Runs.{RunLeft, ended_by, run_story}
use Rattle.lpt_script.specs.Scripts.{Ran, is_later, kept_of}
use Rattle.lpt_script.specs.declared.running.Running.{Running}

-- what lines do on it
abbrev pub story_of : Running → List (List ℕ) → (number refused : ℕ) → Story RunLeft
story_of r ls n refused = run_story (is_later r.shows) (kept_of r.shows) r.world r.bad ls n refused

-- whether an unreadable line ended it
abbrev pub is_ended : Running → Bool
is_ended r = is_some r.bad

-- a line of this number was run
abbrev pub LineTaken : Ran → (number : ℕ) → Result Taken StreamFault → Shown → (old new : Option (List ℕ)) → Type 0
LineTaken ran n (Ok taken) w old new =
    (ran.bad ≡ ended_by taken n) × (from_bool (is_some ran.refused) ≡ failures taken) × (w ≡ ran.world)
    × Appends old new ran.text
LineTaken ran n (Err faults.Write) w old new = AppendsPart old new ran.text
LineTaken ran n (Err faults.Memory) w old new = AppendsPart old new ran.text
LineTaken ran n (Err faults.Read) w old new = ⊥
