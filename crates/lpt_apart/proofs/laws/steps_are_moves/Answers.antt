use Rattle.lpt_apart.proofs.Freely.{steps_are_moves}
use Rattle.lpt_apart.proofs.laws.steps_are_moves.Goals as goal

pub returns : goal.returns
returns f = steps_are_moves
