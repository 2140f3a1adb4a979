use Rattle.lpt_apart.proofs.Played.{worlds_are_ends}
use Rattle.lpt_apart.proofs.laws.worlds_are_ends.Goals as goal

pub returns : goal.returns
returns f = worlds_are_ends
