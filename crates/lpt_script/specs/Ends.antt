-- How lines and scripts end: what the answer says of what was read and written.
use Rattle.std.specs.Prelude.{◌≡◌, ◌⊎◌, ℕ, Bool, true, false, List, Option, Some, None, Result, Ok, Err}
use Rattle.std.specs.Io.KnownBytes.{Appends}
use Rattle.lpt_events.specs.declared.side.Side.{Side}
use Rattle.lpt_script_text.specs.Decoding.{decoding}
use Rattle.lpt_text.specs.Reading.{IsWhole, IsFront, IsCutFront}
use Rattle.lpt_text.specs.Streams.{AppendsPart}
use Rattle.lpt_text.specs.declared.fault.StreamFault.{StreamFault}
use Rattle.lpt_text.specs.declared.fault.StreamFault.TheVariants as faults
use Rattle.lpt_script.specs.declared.fault.ScriptFault.{ScriptFault}
use Rattle.lpt_script.specs.declared.fault.ScriptFault.TheVariants as scripts
use Rattle.lpt_script.specs.declared.end.ScriptEnd.{ScriptEnd}
use Rattle.lpt_script.specs.Scripts.{Left, Ran, Script, lines_left, script_ran, event_stepped, clock_ticked}
use Rattle.lpt_text.specs.Texts.{lines}
use Rattle.lpt_script_words.specs.declared.showing.Show.{Show}
use Rattle.lpt_events.specs.declared.event.Event.TheVariants.{Tick}
use Rattle.lpt_events.specs.declared.fault.StepFault.{StepFault}
use Rattle.lpt_events.specs.declared.fault.StepFault.TheVariants.{Memory}
use Rattle.lpt_world.specs.Worlds.{Shown, refusal_at}

-- how the writing of a text ends
abbrev pub TextEnds : {A : Type 0} → List ℕ → Result A StreamFault → Option (List ℕ) → Option (List ℕ) → Type 0
TextEnds text (Ok done) old new = Appends old new text
TextEnds text (Err faults.Write) old new = AppendsPart old new text
TextEnds text (Err faults.Memory) old new = AppendsPart old new text
TextEnds text (Err faults.Read) old new = ⊥

-- how a line ends
abbrev pub LineEnds : Ran → Result (Option StepFault) StreamFault → Shown → Option (List ℕ) → Option (List ℕ) → Type 0
LineEnds ran (Ok refused) w old new =
    (ran.bad ≡ None) × (refused ≡ ran.refused) × (w ≡ ran.world) × Appends old new ran.text
LineEnds ran (Err faults.Write) w old new = AppendsPart old new ran.text
LineEnds ran (Err faults.Memory) w old new = AppendsPart old new ran.text
LineEnds ran (Err faults.Read) w old new = ⊥

-- how lines end
abbrev pub LinesEnd : Script → Result ScriptEnd ScriptFault → Option (List ℕ) → Option (List ℕ) → Type 0
LinesEnd script (Ok end) old new =
    (script.bad ≡ None) × (end.refused ≡ script.refused) × Appends old new script.text
LinesEnd script (Err (scripts.Line k)) old new = (script.bad ≡ Some k) × Appends old new script.text
LinesEnd script (Err (scripts.Stream faults.Write)) old new = AppendsPart old new script.text
LinesEnd script (Err (scripts.Stream faults.Memory)) old new = AppendsPart old new script.text
LinesEnd script (Err (scripts.Stream faults.Read)) old new = ⊥
LinesEnd script (Err scripts.Config) old new = ⊥

-- How the run of a script's lines ends: what was read of the reader, what the writer gained, and what failed. Ok: all was read,
-- and the whole text written. Line: the text up to the unreadable line was written, that line's with it.
-- Read: a read failed or more came than a script may have; the lines before that were run. Write, Memory:
-- the writer gained a front part of the text.
abbrev pub RunEnds :
    (later : Bool) → Shown → Result ScriptEnd ScriptFault
    → (read_before read_after written_before written_after : Option (List ℕ))
    → (read_failed write_failed : Bool) → Type 0
RunEnds later w (Ok end) old new before after read_failed write_failed =
    IsWhole old new (λ text. LinesEnd (script_ran later w text) (Ok end) before after)
RunEnds later w (Err (scripts.Line n)) old new before after read_failed write_failed =
    IsFront old new (λ text. LinesEnd (script_ran later w text) (Err (scripts.Line n)) before after)
RunEnds later w (Err (scripts.Stream faults.Read)) old new before after read_failed write_failed =
    IsCutFront old new read_failed
    (λ text. ((script_ran later w text).bad ≡ None) × Appends before after (script_ran later w text).text)
RunEnds later w (Err (scripts.Stream faults.Write)) old new before after read_failed write_failed =
    IsFront old new (λ text. LinesEnd (script_ran later w text) (Err (scripts.Stream faults.Write)) before after)
    × (write_failed ≡ true)
RunEnds later w (Err (scripts.Stream faults.Memory)) old new before after read_failed write_failed =
    IsFront old new (λ text. LinesEnd (script_ran later w text) (Err (scripts.Stream faults.Memory)) before after)
RunEnds later w (Err scripts.Config) old new before after read_failed write_failed =
    (old ≡ new) × (before ≡ after)

-- what the end of a script says of the streams: an unreadable line isn't theirs, nor is a configuration
abbrev pub streams_end : {A : Type 0} → Result A ScriptFault → Result Unit StreamFault
streams_end (Ok done) = Ok tt
streams_end (Err (scripts.Stream f)) = Err f
streams_end (Err (scripts.Line n)) = Ok tt
streams_end (Err scripts.Config) = Ok tt

-- All was read, its lines were run and their text written, and this is left of them, with so much kept
-- before.
abbrev pub LinesLeave :
    (later : Bool) → (had : List Show) → Shown → ScriptEnd → Left
    → (read_before read_after written_before written_after : Option (List ℕ)) → Type 0
LinesLeave later had w end left old new before after =
    IsWhole old new
    (λ text. LinesEnd (script_ran later w text) (Ok end) before after
    × (lines_left later (lines text) w 1 had ≡ left))

-- how such a run ends if each line is run in its place
abbrev pub ScriptEnds :
    Shown → Result ScriptEnd ScriptFault
    → (read_before read_after written_before written_after : Option (List ℕ))
    → (read_failed write_failed : Bool) → Type 0
ScriptEnds = RunEnds false

-- what was written stays, and more may stand behind it
abbrev pub Grows : Option (List ℕ) → Option (List ℕ) → Type 0
Grows old new = (more : List ℕ) × Appends old new more

-- the same if nothing was refused
abbrev pub none_refused : Result Unit StreamFault → Result (Option StepFault) StreamFault
none_refused (Ok done) = Ok None
none_refused (Err fault) = Err fault

-- how a decoding ends: the whole text was written, and the answer says whether it is a fault; or a write failed,
-- and the writer gained a front part of it; or memory ran out, and the writer is as it was
abbrev pub DecodeEnds : ℕ → List ℕ → Result Bool StreamFault → Option (List ℕ) → Option (List ℕ) → Type 0
DecodeEnds p octets (Ok faulty) old new =
    (faulty ≡ (decoding p octets).faulty) × Appends old new (decoding p octets).text
DecodeEnds p octets (Err faults.Write) old new = AppendsPart old new (decoding p octets).text
DecodeEnds p octets (Err faults.Memory) old new = new ≡ old
DecodeEnds p octets (Err faults.Read) old new = ⊥

-- A tick before the last was refused, and this world is left: for out of memory, or for the reason that
-- the line says.
abbrev pub IsTickRefused : ℕ → Side → Shown → Shown → StepFault → Type 0
IsTickRefused count side old new fault =
    (fault ≡ Memory)
    ⊎ ((refusal_at new 0 (Tick side) ≡ Some fault)
    × (clock_ticked count side old ≡ event_stepped new (Tick side)))
