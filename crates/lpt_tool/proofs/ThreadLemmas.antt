-- How a script with threads ends.
use Rattle.std.proofs.Common.{ℕ, List, [], ◌++◌, Option, Result, Ok, Err, OnOk, Bool, true, ◌≡◌, ◌∙◌, refl, sym, subst, inl, inr, ◌⊎◌}
use Rattle.std.proofs.KnownBytes.{Appends-kept, Appends-trans}
use Rattle.std.specs.Bool.{⊤}
use Rattle.std.specs.Io.KnownBytes.{Appends, Keeps}
use Rattle.lpt_text.specs.Streams.{ReadEnds, WriteEnds}
use Rattle.lpt_text.specs.declared.fault.StreamFault.{StreamFault}
use Rattle.lpt_text.specs.declared.fault.StreamFault.TheVariants as streams
use Rattle.lpt_script.specs.declared.fault.ScriptFault.{ScriptFault}
use Rattle.lpt_script.specs.declared.fault.ScriptFault.TheVariants as scripts
use Rattle.lpt_tool.specs.Faults.{of_script, of_stream, streams_end}
use Rattle.lpt_tool.specs.declared.fault.ToolFault.{ToolFault}
use Rattle.lpt_tool.specs.declared.fault.ToolFault.TheVariants as tool
use Rattle.lpt_script.specs.Ends.{Grows, LinesEnd, LinesLeave, RunEnds, TextEnds, streams_end as lines_end}
use Rattle.lpt_script_words.specs.declared.showing.Show.{Show}
use Rattle.lpt_script.specs.Scripts.{Left, script_ran}
use Rattle.lpt_events.specs.declared.turns.Turns.{Turns}
use Rattle.lpt_journal.specs.Releases.{releases}
use Rattle.lpt_share.specs.WholeRuns.{IsRun}
use Rattle.lpt_tool.specs.Ends.{shown_text, GoesOn, IsShownBehind, LinesAndMore, ThreadsEnds}
use Rattle.lpt_tool.specs.Full.{full_seats}
use Rattle.lpt_tool.specs.Summary.{IsSummary}
use Rattle.lpt_tool.specs.declared.threads_end.ThreadsEnd.{ThreadsEnd}
use Rattle.lpt_script.specs.declared.end.ScriptEnd.{ScriptEnd}
use Rattle.lpt_world.specs.Worlds.{Shown, history}

-- ---- behind the text of lines

lines_and_more : (w : Shown) (text : List ℕ) (end : ScriptEnd) (a b c : Option (List ℕ))
    → LinesEnd (script_ran true w text) (Ok end) a b
    → Grows b c
    → LinesAndMore (script_ran true w text) a c
lines_and_more w text end a b c p q =
    (p.0, q.0, Appends-trans a b c (script_ran true w text).text q.0 p.2 q.1)

-- what was printed was passed on, and stays
pub grown_kept : (a b c : Option (List ℕ)) → Grows a b → Keeps b c → Grows a c
grown_kept a b c p q = (p.0, Appends-kept a b c p.0 p.1 q)

-- what was printed ended by a fault
pub shown_fault : (turns : Turns) (left : Left) (refused : ℕ) (fault : StreamFault)
    (a b : Option (List ℕ)) (had more : Bool)
    → Grows a b
    → (fault ≡ streams.Write) ⊎ (fault ≡ streams.Memory)
    → WriteEnds {A = Unit} (Err fault) had more
    → GoesOn turns left refused (Err (of_stream fault)) a b more
shown_fault turns left refused streams.Write a b had more p which ends = (p, ends)
shown_fault turns left refused streams.Memory a b had more p which ends = p
shown_fault turns left refused streams.Read a b had more p (inl e) ends = cc
shown_fault turns left refused streams.Read a b had more p (inr e) ends = cc

-- ---- the ends

-- a fault of the lines
pub lines_fault : (turns : Turns) (w : Shown) (fault : ScriptFault) (old new a b : Option (List ℕ))
    (failed wrote : Bool)
    → RunEnds true w (Err fault) old new a b failed wrote
    → ThreadsEnds turns w (Err (of_script fault)) old new a b failed wrote
lines_fault turns w (scripts.Line k) old new a b failed wrote p = p
lines_fault turns w scripts.Config old new a b failed wrote p = p
lines_fault turns w (scripts.Stream streams.Read) old new a b failed wrote p = p
lines_fault turns w (scripts.Stream streams.Write) old new a b failed wrote p = inl p
lines_fault turns w (scripts.Stream streams.Memory) old new a b failed wrote p = inl p

-- a fault of the threads, or of what is printed after them
after_fault : (turns : Turns) (left : Left) (w : Shown) (end : ScriptEnd) (fault : ToolFault)
    (old new a b c : Option (List ℕ)) (failed wrote more : Bool)
    → RunEnds true w (Ok end) old new a b failed wrote
    → GoesOn turns left end.refused (Err fault) b c more
    → ThreadsEnds turns w (Err fault) old new a c failed more
after_fault turns left w end (tool.Threads k) old new a b c failed wrote more p q =
    (p.0, p.1, p.2, p.3, (p.4.0, subst (λ x. Appends a x (script_ran true w p.0).text) q p.4.2))
after_fault turns left w end tool.Write old new a b c failed wrote more p q =
    inr ((p.0, p.1, p.2, p.3, lines_and_more w p.0 end a b c p.4 q.0), q.1)
after_fault turns left w end tool.Memory old new a b c failed wrote more p q =
    inr (p.0, p.1, p.2, p.3, lines_and_more w p.0 end a b c p.4 q)
after_fault turns left w end (tool.Line k) old new a b c failed wrote more p q = absurd q
after_fault turns left w end tool.Read old new a b c failed wrote more p q = absurd q
after_fault turns left w end tool.Config old new a b c failed wrote more p q = absurd q

-- all was done: the lines left this, and behind their text stands what is shown of the run
threads_done : (turns : Turns) (left : Left) (w : Shown) (end : ScriptEnd) (done : ThreadsEnd)
    (old new a b c : Option (List ℕ)) (failed wrote : Bool)
    → LinesLeave true [] w end left old new a b
    → GoesOn turns left end.refused (Ok done) b c wrote
    → ThreadsEnds turns w (Ok done) old new a c failed wrote
threads_done turns left w end done old new a b c failed wrote p (same, q) =
    let text = (script_ran true w p.0).text in
    let after = q.3 ++ shown_text left.kept q.0 in
    let shown : IsShownBehind text turns left done.full.items a c =
    (q.0, q.1, q.2, q.3, q.4, Appends-trans a b c text after p.4.0.2 q.5) in (
      p.0,
      p.1,
      p.2,
      p.3,
      (
        p.4.0.0,
        same ∙ p.4.0.1,
        subst (λ l. IsShownBehind text turns l done.full.items a c)
            (sym p.4.1) shown,
      ),
    )

-- what followed the lines
pub lines_then : (turns : Turns) (left : Left) (w : Shown) (end : ScriptEnd)
    (r : Result ThreadsEnd ToolFault) (old new a b c : Option (List ℕ)) (failed wrote more : Bool)
    → LinesLeave true [] w end left old new a b
    → RunEnds true w (Ok end) old new a b failed wrote
    → GoesOn turns left end.refused r b c more
    → ThreadsEnds turns w r old new a c failed more
lines_then turns left w end (Ok done) old new a b c failed wrote more leave ends q =
    threads_done turns left w end done old new a b c failed more leave q
lines_then turns left w end (Err fault) old new a b c failed wrote more leave ends q =
    after_fault turns left w end fault old new a b c failed wrote more ends q

-- what is shown of the run was written and passed on
pub shown_passed : (turns : Turns) (left : Left) (done : ThreadsEnd) (w : Shown)
    (a b c : Option (List ℕ)) (wrote : Bool)
    → done.full.items ≡ full_seats turns.per_seat w.journal
    → IsRun turns left.world w
    → ((summary : List ℕ) × IsSummary w.config.source (releases w.config (history w)) w.journal summary × Appends a b (summary ++ shown_text left.kept w))
    → Keeps b c
    → GoesOn turns left done.refused (Ok done) a c wrote
shown_passed turns left done w a b c wrote full ran p q =
    (refl, (w, ran, full, p.0, p.1, Appends-kept a b c (p.0 ++ shown_text left.kept w) p.2 q))

-- what a run left, and what kept lines show of it
pub left_shown : (kept : List Show) (w : Shown) (r : Result Unit StreamFault)
    (a b c : Option (List ℕ))
    → ((summary : List ℕ) × IsSummary w.config.source (releases w.config (history w)) w.journal summary × Appends a b summary)
    → TextEnds (shown_text kept w) r b c
    → OnOk r ((summary : List ℕ) × IsSummary w.config.source (releases w.config (history w)) w.journal summary × Appends a c (summary ++ shown_text kept w))
left_shown kept w (Ok u) a b c p q = (p.0, p.1, Appends-trans a b c p.0 (shown_text kept w) p.2 q)
left_shown kept w (Err fault) a b c p q = tt

-- ---- what an end says of the streams

-- a fault of the lines, to the writer
pub lines_write : (B : Type 0) (fault : ScriptFault) (had failed : Bool)
    → WriteEnds (lines_end {A = ScriptEnd} (Err fault)) had failed
    → WriteEnds (streams_end {A = B} (Err (of_script fault))) had failed
lines_write B (scripts.Line k) had failed p = p
lines_write B scripts.Config had failed p = p
lines_write B (scripts.Stream streams.Read) had failed p = p
lines_write B (scripts.Stream streams.Write) had failed p = p
lines_write B (scripts.Stream streams.Memory) had failed p = p

-- one of a text's
pub text_write : (B : Type 0) (fault : StreamFault) (had failed : Bool)
    → WriteEnds {A = Unit} (Err fault) had failed
    → WriteEnds (streams_end {A = B} (Err (of_stream fault))) had failed
text_write B streams.Read had failed p = p
text_write B streams.Write had failed p = p
text_write B streams.Memory had failed p = p

-- and to the reader
pub lines_read : (B : Type 0) (fault : ScriptFault) (had failed : Bool)
    → ReadEnds ⊤ (lines_end {A = ScriptEnd} (Err fault)) had failed
    → ReadEnds ⊤ (streams_end {A = B} (Err (of_script fault))) had failed
lines_read B (scripts.Line k) had failed p = p
lines_read B scripts.Config had failed p = p
lines_read B (scripts.Stream streams.Read) had failed p = p
lines_read B (scripts.Stream streams.Write) had failed p = p
lines_read B (scripts.Stream streams.Memory) had failed p = p

-- it is the configuration's where the lines' is
pub lines_config : (fault : ScriptFault) → of_script fault ≡ tool.Config → fault ≡ scripts.Config
lines_config (scripts.Line k) is = let never : tool.Line k ≡ tool.Config = is in absurd cc
lines_config scripts.Config is = refl
lines_config (scripts.Stream streams.Read) is =
    let never : tool.Read ≡ tool.Config = is in absurd cc
lines_config (scripts.Stream streams.Write) is =
    let never : tool.Write ≡ tool.Config = is in absurd cc
lines_config (scripts.Stream streams.Memory) is =
    let never : tool.Memory ≡ tool.Config = is in absurd cc

-- what follows the lines reads nothing
pub goes_read : (turns : Turns) (left : Left) (refused : ℕ) (r : Result ThreadsEnd ToolFault)
    (a b : Option (List ℕ)) (wrote had failed : Bool)
    → GoesOn turns left refused r a b wrote
    → failed ≡ had
    → ReadEnds ⊤ (streams_end r) had failed
goes_read turns left refused (Ok done) a b wrote had failed p same = same
goes_read turns left refused (Err tool.Write) a b wrote had failed p same = same
goes_read turns left refused (Err tool.Memory) a b wrote had failed p same = same
goes_read turns left refused (Err (tool.Threads k)) a b wrote had failed p same = same
goes_read turns left refused (Err (tool.Line k)) a b wrote had failed p same = same
goes_read turns left refused (Err tool.Config) a b wrote had failed p same = same
goes_read turns left refused (Err tool.Read) a b wrote had failed p same = absurd p
