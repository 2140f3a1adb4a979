use Rattle.lpt_c_pair.proofs.Working.{worked_can_be}
use Rattle.lpt_c_pair.proofs.laws_examples.worked_can_be.Goals as goal

pub returns : goal.returns
returns f = worked_can_be
