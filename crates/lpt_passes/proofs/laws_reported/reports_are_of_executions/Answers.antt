-- The lemma says it.
use Rattle.lpt_passes.proofs.CarriedLemmas.{reports_are_of_executions}
use Rattle.lpt_passes.proofs.laws_reported.reports_are_of_executions.Goals as goal

pub returns : goal.returns
returns c = reports_are_of_executions
