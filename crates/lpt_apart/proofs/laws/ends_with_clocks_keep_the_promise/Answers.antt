use Rattle.lpt_apart.proofs.Clocks.{ends_with_clocks_keep_the_promise}
use Rattle.lpt_apart.proofs.laws.ends_with_clocks_keep_the_promise.Goals as goal

pub returns : goal.returns
returns f = ends_with_clocks_keep_the_promise
