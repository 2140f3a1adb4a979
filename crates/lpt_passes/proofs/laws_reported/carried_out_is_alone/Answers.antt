-- The lemma says it.
use Rattle.lpt_passes.proofs.AloneLemmas.{carried_out_is_alone}
use Rattle.lpt_passes.proofs.laws_reported.carried_out_is_alone.Goals as goal

pub returns : goal.returns
returns c = carried_out_is_alone
