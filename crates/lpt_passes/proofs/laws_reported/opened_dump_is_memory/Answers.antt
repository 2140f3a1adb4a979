-- The lemma says it.
use Rattle.lpt_passes.proofs.CarriedLemmas.{opened_dump_is_memory}
use Rattle.lpt_passes.proofs.laws_reported.opened_dump_is_memory.Goals as goal

pub returns : goal.returns
returns c = opened_dump_is_memory
