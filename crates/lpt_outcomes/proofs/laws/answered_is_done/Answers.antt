use Rattle.lpt_outcomes.proofs.DoneLemmas.{answered-done}
use Rattle.lpt_outcomes.proofs.laws.answered_is_done.Goals as goal

pub returns : goal.returns
returns c = answered-done
