-- How a script with threads ends: what the answer says of what was read and written.
use Rattle.std.specs.Prelude.{◌≡◌, ◌⊎◌, ◌++◌, ℕ, Bool, true, List, [], Option, None, Result, Ok, Err}
use Rattle.std.specs.Io.KnownBytes.{Appends}
use Rattle.std.specs.List.{flat_map}
use Rattle.lpt_text.specs.Reading.{IsWhole}
use Rattle.lpt_text.specs.declared.fault.StreamFault.TheVariants as streams
use Rattle.lpt_script.specs.declared.fault.ScriptFault.TheVariants as scripts
use Rattle.lpt_script_words.specs.declared.showing.Show.{Show}
use Rattle.lpt_script.specs.Ends.{Grows, RunEnds}
use Rattle.lpt_script.specs.Scripts.{Left, Script, script_left, script_ran, show_text}
use Rattle.lpt_events.specs.declared.turns.Turns.{Turns}
use Rattle.lpt_journal.specs.Releases.{releases}
use Rattle.lpt_world.specs.Worlds.{Shown, history}
use Rattle.lpt_share.specs.WholeRuns.{IsRun}
use Rattle.lpt_tool.specs.Full.{full_seats}
use Rattle.lpt_tool.specs.Summary.{IsSummary}
use Rattle.lpt_tool.specs.declared.fault.ToolFault.{ToolFault}
use Rattle.lpt_tool.specs.declared.fault.ToolFault.TheVariants as tool
use Rattle.lpt_tool.specs.declared.threads_end.ThreadsEnd.{ThreadsEnd}

-- the whole text of lines was written, and more may stand behind it
abbrev pub LinesAndMore : Script → Option (List ℕ) → Option (List ℕ) → Type 0
LinesAndMore script old new = (script.bad ≡ None) × (more : List ℕ) × Appends old new (script.text ++ more)

-- what is shown of a world by lines that were kept, in order
abbrev pub shown_text : List Show → Shown → List ℕ
shown_text shows w = flat_map (λ s. show_text s w) shows

-- a run of threads from what lines left, in which these seats reached their limit: behind this text the
-- summary of what it left was written, and then what the kept lines show of it
abbrev pub IsShownBehind : List ℕ → Turns → Left → (full : List ℕ) → (before after : Option (List ℕ)) → Type 0
IsShownBehind text turns left full before after =
    (w : Shown)
    × IsRun turns left.world w
    × (full ≡ full_seats turns.per_seat w.journal)
    × (summary : List ℕ)
    × IsSummary w.config.source (releases w.config (history w)) w.journal summary
    × Appends before after (text ++ (summary ++ shown_text left.kept w))

-- How a script with threads ends. Ok: all was read, each line could be, and what those print that don't
-- show was written, with what the threads left behind it, and what the other lines show of that, and the seats
-- that reached their limit are told. Line, Read, Config: as without threads. Write,
-- Memory: as without threads, or behind the whole text of those lines. Threads: all was read, and the
-- text of those lines written, no more.
abbrev pub ThreadsEnds :
    Turns → Shown → Result ThreadsEnd ToolFault
    → (read_before read_after written_before written_after : Option (List ℕ))
    → (read_failed write_failed : Bool) → Type 0
ThreadsEnds turns w (Ok end) old new before after read_failed write_failed =
    IsWhole old new
    (λ text. ((script_ran true w text).bad ≡ None)
    × (end.refused ≡ (script_ran true w text).refused)
    × IsShownBehind (script_ran true w text).text turns (script_left true w text) end.full.items before after)
ThreadsEnds turns w (Err (tool.Line n)) old new before after read_failed write_failed =
    RunEnds true w (Err (scripts.Line n)) old new before after read_failed write_failed
ThreadsEnds turns w (Err tool.Read) old new before after read_failed write_failed =
    RunEnds true w (Err (scripts.Stream streams.Read)) old new before after read_failed write_failed
ThreadsEnds turns w (Err tool.Config) old new before after read_failed write_failed =
    (old ≡ new) × (before ≡ after)
ThreadsEnds turns w (Err tool.Write) old new before after read_failed write_failed =
    RunEnds true w (Err (scripts.Stream streams.Write)) old new before after read_failed write_failed
    ⊎ (IsWhole old new (λ text. LinesAndMore (script_ran true w text) before after) × (write_failed ≡ true))
ThreadsEnds turns w (Err tool.Memory) old new before after read_failed write_failed =
    RunEnds true w (Err (scripts.Stream streams.Memory)) old new before after read_failed write_failed
    ⊎ IsWhole old new (λ text. LinesAndMore (script_ran true w text) before after)
ThreadsEnds turns w (Err (tool.Threads fault)) old new before after read_failed write_failed =
    IsWhole old new
    (λ text. ((script_ran true w text).bad ≡ None)
    × Appends before after (script_ran true w text).text)

-- how the threads and what is printed after them end, behind lines of which so many were refused:
-- if the threads fail, nothing was written
abbrev pub GoesOn : Turns → Left → (refused : ℕ) → Result ThreadsEnd ToolFault → (before after : Option (List ℕ)) → (write_failed : Bool) → Type 0
GoesOn turns left refused (Ok end) before after write_failed =
    (end.refused ≡ refused) × IsShownBehind [] turns left end.full.items before after
GoesOn turns left refused (Err tool.Write) before after write_failed = Grows before after × (write_failed ≡ true)
GoesOn turns left refused (Err tool.Memory) before after write_failed = Grows before after
GoesOn turns left refused (Err (tool.Threads fault)) before after write_failed = before ≡ after
GoesOn turns left refused (Err (tool.Line n)) before after write_failed = ⊥
GoesOn turns left refused (Err tool.Read) before after write_failed = ⊥
GoesOn turns left refused (Err tool.Config) before after write_failed = ⊥
