-- The lemma says it.
use Rattle.lpt_passes.proofs.CarriedLemmas.{completed_was_executed}
use Rattle.lpt_passes.proofs.laws_reported.completed_was_executed.Goals as goal

pub returns : goal.returns
returns c = completed_was_executed
