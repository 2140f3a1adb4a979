-- Input by input.
use Rattle.lpt_spacecraft_moves.proofs.InputRuns.{input-moves}
use Rattle.lpt_spacecraft_moves.proofs.laws.inputs_are_moves.Goals as goal

pub returns : goal.returns
returns c = input-moves
