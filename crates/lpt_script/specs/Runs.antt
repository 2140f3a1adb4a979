-- What the lines of a script leave of a world on which they are run one by one.
use Rattle.std.specs.Prelude.{ℕ, Bool, List, [], Option, Some, None, Result, Ok, Err}
use Rattle.lpt_text.specs.Taking.{Story}
use Rattle.lpt_text.specs.declared.fault.StreamFault.{StreamFault}
use Rattle.lpt_text.specs.declared.taking.Taken.{Taken}
use Rattle.lpt_text.specs.declared.taking.Taken.TheVariants.{Done, Failed, Over}
use Rattle.lpt_script_words.specs.declared.showing.Show.{Show}
use Rattle.lpt_world.specs.Worlds.{Shown}
use Rattle.lpt_script.specs.Scripts.{Left, lines_left, lines_ran}
use Rattle.lpt_script.specs.declared.end.ScriptEnd.{ScriptEnd}
use Rattle.lpt_script.specs.declared.fault.ScriptFault.{ScriptFault}
use Rattle.lpt_script.specs.declared.fault.ScriptFault.TheVariants.{Stream, Line}

-- what lines leave: how many were refused, the number of the unreadable one that ended them, and what is
-- left if none did
pub record RunLeft : Type 0 where
  pub refused : ℕ
  pub bad : Option ℕ
  pub left : Option Left

-- what is left if no line ended the others
abbrev pub unless_bad : Option ℕ → Left → Option Left
unless_bad None left = Some left
unless_bad (Some n) left = None

-- what lines do on this world, with so much kept to be shown later; none is run behind an unreadable one
abbrev pub run_story :
    (later : Bool) → (kept : List Show) → Shown → (bad : Option ℕ) → List (List ℕ)
    → (number refused : ℕ) → Story RunLeft
run_story later kept w (Some k) ls n refused =
    record { text = []; left = record { refused = refused; bad = Some k; left = None } }
run_story later kept w None ls n refused =
    let script = lines_ran later ls w n refused in
    record {
      text = script.text;
      left = record {
        refused = script.refused;
        bad = script.bad;
        left = unless_bad script.bad (lines_left later ls w n kept);
      };
    }

-- the number of a line that ended a run, by what became of it
abbrev pub ended_by : Taken → (number : ℕ) → Option ℕ
ended_by Done n = None
ended_by Failed n = None
ended_by Over n = Some n

-- how a script ends whose lines were taken, up to an unreadable one
abbrev pub script_end : Result ℕ StreamFault → (bad : Option ℕ) → Result ScriptEnd ScriptFault
script_end (Err fault) bad = Err (Stream fault)
script_end (Ok refused) (Some n) = Err (Line n)
script_end (Ok refused) None = Ok (record { refused = refused })
