use Rattle.lpt_c_pair.proofs.LeavingExamples.{leavings_can_be}
use Rattle.lpt_c_pair.proofs.laws_examples.leavings_can_be.Goals as goal

pub returns : goal.returns
returns f = leavings_can_be
