-- The lemma says it.
use Rattle.lpt_passes.proofs.PassLemmas.{heard_dump_is_memory}
use Rattle.lpt_passes.proofs.laws.heard_dump_is_memory.Goals as goal

pub returns : goal.returns
returns c = heard_dump_is_memory
