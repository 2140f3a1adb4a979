use Rattle.lpt_apart.proofs.Bringing.{worlds_bring_the_same}
use Rattle.lpt_apart.proofs.laws.worlds_bring_the_same.Goals as goal

pub returns : goal.returns
returns f = worlds_bring_the_same
