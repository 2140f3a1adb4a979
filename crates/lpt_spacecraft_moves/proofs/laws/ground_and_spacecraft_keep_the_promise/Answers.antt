use Rattle.lpt_spacecraft_moves.proofs.Living.{ground_and_spacecraft_keep_the_promise}
use Rattle.lpt_spacecraft_moves.proofs.laws.ground_and_spacecraft_keep_the_promise.Goals as goal

pub returns : goal.returns
returns f = ground_and_spacecraft_keep_the_promise
