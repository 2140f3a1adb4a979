-- Executions over memories that are with the program.
use Rattle.std.proofs.Common.{◌≡◌, refl, subst, ℕ, List, Option, Some, None}
use Rattle.lpt_c_end.specs.Accesses.{length_refusal}
use Rattle.lpt_events.specs.declared.config.Config.{Config}
use Rattle.lpt_jobs.specs.Jobs.{Head, NoJob, NotReady, Ready}
use Rattle.lpt_memory.specs.Meanings.{Sizes}
use Rattle.lpt_memory.specs.Memories.{Contents, sizes_of}
use Rattle.lpt_memory.specs.Ranges.{MeaningFits}
use Rattle.lpt_memory.specs.Readings.{Source, source_meaning}
use Rattle.lpt_memory.proofs.MeaningLemmas.{meaning-fits}
use Rattle.lpt_memory.proofs.PutLemmas.{sizes_of-effect}
use Rattle.lpt_node.specs.Jobs.{FrontIsFor, executed_of}
use Rattle.lpt_node.specs.Nodes.{NodeData}

-- where octets may be too few or too many, what isn't refused wasn't before
pub not_short : (o : Option ℕ) (first : Option Source) (octets : List ℕ)
    → length_refusal o first octets ≡ None
    → o ≡ None
not_short None first octets e = refl
not_short (Some fault) first octets e = absurd cc

-- an execution leaves the sizes of memories
pub executed_sizes : (c : Config) (d : NodeData) (ms : Contents) (h : Head) (apid : ℕ)
    → FrontIsFor h apid ms
    → sizes_of (executed_of c d ms h).1 ≡ sizes_of ms
executed_sizes c d ms NoJob apid front = refl
executed_sizes c d ms NotReady apid front = refl
executed_sizes c d ms (Ready r) apid front =
    sizes_of-effect (source_meaning r) ms
    (subst (λ (s : Sizes). MeaningFits s (source_meaning r)) front.1
    (meaning-fits r.apid r.sizes r.message))
