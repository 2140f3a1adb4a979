use Rattle.lpt_c_pair.proofs.Calling.{calls_can_be}
use Rattle.lpt_c_pair.proofs.laws_examples.calls_can_be.Goals as goal

pub returns : goal.returns
returns f = calls_can_be
