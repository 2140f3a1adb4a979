-- An execution by the octets that memories have in what it reads is the one over these memories.
use Rattle.std.proofs.Common.{◌≡◌, ◌∙◌, ap, sym, subst, refl, ℕ, List, length, Some, None}
use Rattle.lpt_events.specs.declared.config.Config.{Config}
use Rattle.lpt_jobs.specs.Jobs.{Head, NoJob, NotReady, Ready}
use Rattle.lpt_memory.specs.declared.effect.Effect.{Effect}
use Rattle.lpt_memory.specs.Given.{answer_of, read_length}
use Rattle.lpt_memory.specs.Meanings.{Sizes}
use Rattle.lpt_memory.specs.Memories.{Contents}
use Rattle.lpt_memory.specs.Ranges.{MeaningFits}
use Rattle.lpt_memory.specs.Readings.{Source, source_meaning}
use Rattle.lpt_memory.proofs.GivenLemmas.{answer_of-held}
use Rattle.lpt_memory.proofs.MeaningLemmas.{meaning-fits}
use Rattle.lpt_node.specs.Jobs.{FrontHolds, FrontIsFor, FrontReads, ending_given, ending_with, executed_ending, executed_of, executed_so, front_reading, refusal_apply_of}
use Rattle.lpt_node.specs.Nodes.{NodeData}

-- what isn't refused was read
pub front_was_read : (h : Head) → refusal_apply_of h ≡ None → front_reading h ≡ None → ⊥
front_was_read NoJob enabled none = cc
front_was_read NotReady enabled none = cc
front_was_read (Ready r) enabled none = cc

-- octets that are as many as the reading reads are as many as what stands first reads
pub front_reads : (h : Head) (r : Source) (octets : List ℕ)
    → front_reading h ≡ Some r
    → length octets ≡ read_length (source_meaning r)
    → FrontReads h octets
front_reads NoJob r octets is whole = tt
front_reads NotReady r octets is whole = tt
front_reads (Ready x) r octets is whole =
    let same : r ≡ x = cc in
    subst (λ (y : Source). length octets ≡ read_length (source_meaning y)) same whole

module _ (c : Config) (d : NodeData) where
  -- by the octets that memories have there it is the one over them
  pub given_over : (ms : Contents) (octets : List ℕ) (h : Head) (apid : ℕ)
      → FrontIsFor h apid ms
      → FrontHolds h ms octets
      → executed_so c d (ending_given c d octets) h ≡ (executed_of c d ms h).0
  given_over ms octets NoJob apid front held = refl
  given_over ms octets NotReady apid front held = refl
  given_over ms octets (Ready r) apid front held =
      let fits = subst (λ (s : Sizes). MeaningFits s (source_meaning r)) front.1
      (meaning-fits r.apid r.sizes r.message) in
      ap (λ (e : Effect). executed_ending c d r (ending_with c d r e))
      (ap (answer_of (source_meaning r)) (sym held) ∙ answer_of-held (source_meaning r) ms fits)
