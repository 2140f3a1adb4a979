use Rattle.lpt_apart.proofs.Deleting.{reset_ends_keep_the_promise}
use Rattle.lpt_apart.proofs.laws_kept.reset_ends_keep_the_promise.Goals as goal

pub returns : goal.returns
returns f = reset_ends_keep_the_promise
