use Rattle.lpt_refinement.proofs.Follows.{follows}
use Rattle.lpt_refinement.proofs.laws.follows_journal.Goals as goal

pub returns : goal.returns
returns f = follows
