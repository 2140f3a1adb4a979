-- What is printed behind the text of a script's lines.
use Rattle.std.proofs.Common.{◌≡◌, ◌⊎◌, refl, inl, inr, ℕ, List, ◌++◌, take, Option, Result, Ok, Err, OnOk, IfErr}
use Rattle.std.proofs.KnownBytes.{Appends-trans}
use Rattle.std.specs.Io.KnownBytes.{Appends}
use Rattle.lpt_script.specs.Ends.{Grows, TextEnds}
use Rattle.lpt_script_text.specs.Printing.{plain_count_text, applied_count_text}
use Rattle.lpt_text.specs.declared.fault.StreamFault.{StreamFault}
use Rattle.lpt_text.specs.declared.fault.StreamFault.TheVariants as faults
use Rattle.lpt_events.specs.declared.entry.Entry.{Entry}
use Rattle.lpt_events.specs.declared.entry.Release.{Release}
use Rattle.lpt_packet.specs.Names.{Name}
use Rattle.lpt_packet.specs.declared.direction.Direction.{Direction}
use Rattle.lpt_packet.specs.declared.direction.Direction.TheVariants.{Up, Down}
use Rattle.lpt_tool.specs.Summary.{applied_count, large_of, large_text, plain_count, IsByName, IsSummary}

-- ---- a text

-- what was written stays
pub text_grows : (text : List ℕ) (r : Result Unit StreamFault) (a b : Option (List ℕ)) → TextEnds text r a b → Grows a b
text_grows text (Ok u) a b p = (text, p)
text_grows text (Err faults.Write) a b p = (take p.0 text, p.1)
text_grows text (Err faults.Memory) a b p = (take p.0 text, p.1)
text_grows text (Err faults.Read) a b p = absurd p

-- it ends by no other faults
pub text_only : (text : List ℕ) (r : Result Unit StreamFault) (a b : Option (List ℕ))
    → TextEnds text r a b
    → IfErr r (λ e. (e ≡ faults.Write) ⊎ (e ≡ faults.Memory))
text_only text (Ok u) a b p = tt
text_only text (Err faults.Write) a b p = inl refl
text_only text (Err faults.Memory) a b p = inr refl
text_only text (Err faults.Read) a b p = absurd p

-- ---- the summary

-- the lines of large releases by name
abbrev pub AreWritten : (source : ℕ) → Direction → List Release → (a b : Option (List ℕ)) → Type 0
AreWritten source d rs a b =
    (sorted : List (Name × ℕ)) × IsByName (large_of d rs) sorted × Appends a b (large_text source d sorted)

pub large_written : (source : ℕ) (d : Direction) (rs : List Release) (sorted : List (Name × ℕ)) (r : Result Unit StreamFault) (a b : Option (List ℕ))
    → IsByName (large_of d rs) sorted
    → TextEnds (large_text source d sorted) r a b
    → OnOk r (AreWritten source d rs a b)
large_written source d rs sorted (Ok u) a b is p = (sorted, is, p)
large_written source d rs sorted (Err fault) a b is p = tt

-- the counts behind the large releases of both directions
pub summary_written : (source : ℕ) (rs : List Release) (xs : List Entry) (r : Result Unit StreamFault) (a b c d e : Option (List ℕ))
    → AreWritten source Up rs a b
    → AreWritten source Down rs b c
    → Appends c d (plain_count_text (plain_count rs))
    → TextEnds (applied_count_text (applied_count xs)) r d e
    → OnOk r ((text : List ℕ) × IsSummary source rs xs text × Appends a e text)
summary_written source rs xs (Err fault) a b c d e ups downs plain applied = tt
summary_written source rs xs (Ok u) a b c d e ups downs plain applied =
    let counts = plain_count_text (plain_count rs) ++ applied_count_text (applied_count xs) in
    let behind = large_text source Down downs.0 ++ counts in (
      large_text source Up ups.0 ++ behind,
      (ups.0, downs.0, ups.1, downs.1, refl),
      Appends-trans a b e (large_text source Up ups.0) behind ups.2
          (Appends-trans b c e (large_text source Down downs.0) counts downs.2
          (Appends-trans c d e (plain_count_text (plain_count rs)) (applied_count_text (applied_count xs)) plain applied)),
    )
