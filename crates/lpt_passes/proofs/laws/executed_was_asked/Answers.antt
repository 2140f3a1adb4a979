-- The lemma says it.
use Rattle.lpt_passes.proofs.AskedLemmas.{executed_was_asked}
use Rattle.lpt_passes.proofs.laws.executed_was_asked.Goals as goal

pub returns : goal.returns
returns c = executed_was_asked
