use Rattle.lpt_c_pair.proofs.Answering.{zero_is_done}
use Rattle.lpt_c_pair.proofs.laws.zero_is_done.Goals as goal

pub returns : goal.returns
returns f = zero_is_done
