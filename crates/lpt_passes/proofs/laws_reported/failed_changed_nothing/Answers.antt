-- The lemma says it.
use Rattle.lpt_passes.proofs.CarriedLemmas.{failed_changed_nothing}
use Rattle.lpt_passes.proofs.laws_reported.failed_changed_nothing.Goals as goal

pub returns : goal.returns
returns c = failed_changed_nothing
