-- The lemma says it.
use Rattle.lpt_passes.proofs.CarriedLemmas.{opened_reports_are_of_executions}
use Rattle.lpt_passes.proofs.laws_reported.opened_reports_are_of_executions.Goals as goal

pub returns : goal.returns
returns c = opened_reports_are_of_executions
