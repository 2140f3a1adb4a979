-- It is no report of the pass.
use Rattle.lpt_ground.proofs.OtherLemmas.{others-leave}
use Rattle.lpt_ground.proofs.laws.other_sources_leave_the_pass.Goals as goal

pub returns : goal.returns
returns c = others-leave
