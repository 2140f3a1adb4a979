-- The lemma says it.
use Rattle.lpt_passes.proofs.CarriedLemmas.{dumped_is_memory}
use Rattle.lpt_passes.proofs.laws_reported.dumped_is_memory.Goals as goal

pub returns : goal.returns
returns c = dumped_is_memory
