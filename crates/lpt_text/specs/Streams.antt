-- What readers and writers tell.
use Rattle.std.specs.Prelude.{ℕ, Bool, true, false, List, take, Option, Some, None, Result, Ok, Err, ◌≡◌, ◌⊎◌, ◌==◌, ◌||◌}
use Rattle.std.specs.Io.KnownBytes.{Appends}
use Rattle.lpt_text.specs.declared.fault.StreamFault.{StreamFault}
use Rattle.lpt_text.specs.declared.fault.StreamFault.TheVariants.{Read, Write, Memory}

-- whether a reader has failed, after a read: one that gives no count has failed
abbrev pub read_failed : Option ℕ → Bool → Bool
read_failed None before = true
read_failed (Some n) before = before

-- whether a writer has failed, after a write: one that gives no count has failed, and so has one
-- that takes nothing
abbrev pub write_failed : Option ℕ → Bool → Bool
write_failed None before = true
write_failed (Some n) before = (n == 0) || before

-- whether a writer has failed, after a flush: one that could not pass on what it kept back has
abbrev pub flush_failed : Bool → Bool → Bool
flush_failed true before = before
flush_failed false before = true

-- the writer has gained a front part of the text
abbrev pub AppendsPart : Option (List ℕ) → Option (List ℕ) → List ℕ → Type 0
AppendsPart old new text = (n : ℕ) × Appends old new (take n text)

-- ---- how work ends

-- whether a writer has failed, after work that this fault ended
abbrev pub failed_write : StreamFault → Bool → Bool
failed_write Read before = before
failed_write Write before = true
failed_write Memory before = before

-- how work leaves a writer: it has failed if a fault of a write ended the work, and by no other
-- end
abbrev pub WriteEnds : {A : Type 0} → Result A StreamFault → (had failed : Bool) → Type 0
WriteEnds (Ok done) had failed = failed ≡ had
WriteEnds (Err fault) had failed = failed ≡ failed_write fault had

-- how a fault leaves a reader: a fault of a read is that it has failed, or that more came than may
-- come
abbrev pub ReadFails : (Over : Type 0) → StreamFault → (had failed : Bool) → Type 0
ReadFails Over Read had failed = (failed ≡ true) ⊎ Over
ReadFails Over Write had failed = failed ≡ had
ReadFails Over Memory had failed = failed ≡ had

-- how work leaves a reader: it has failed by no other end than by a fault of a read
abbrev pub ReadEnds : {A : Type 0} → (Over : Type 0) → Result A StreamFault → (had failed : Bool)
    → Type 0
ReadEnds Over (Ok done) had failed = failed ≡ had
ReadEnds Over (Err fault) had failed = ReadFails Over fault had failed
