-- Nothing is said of its requests.
use Rattle.lpt_passes.proofs.ChainLemmas.{others-leave}
use Rattle.lpt_passes.proofs.laws_moves.others_leave_the_pass.Goals as goal

pub returns : goal.returns
returns c = others-leave
