-- The lemma says it.
use Rattle.lpt_passes.proofs.DumpLemmas.{joined_dump_is_memory}
use Rattle.lpt_passes.proofs.laws.joined_dump_is_memory.Goals as goal

pub returns : goal.returns
returns c = joined_dump_is_memory
