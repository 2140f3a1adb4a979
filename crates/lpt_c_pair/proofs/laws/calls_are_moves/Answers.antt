use Rattle.lpt_c_pair.proofs.Calls.{calls_are_moves}
use Rattle.lpt_c_pair.proofs.laws.calls_are_moves.Goals as goal

pub returns : goal.returns
returns f = calls_are_moves
