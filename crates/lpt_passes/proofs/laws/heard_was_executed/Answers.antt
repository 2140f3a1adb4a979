-- The lemma says it.
use Rattle.lpt_passes.proofs.PassLemmas.{heard_was_executed}
use Rattle.lpt_passes.proofs.laws.heard_was_executed.Goals as goal

pub returns : goal.returns
returns c = heard_was_executed
