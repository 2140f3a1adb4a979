use Rattle.lpt_apart.proofs.Bringing.{moves_bring_the_same}
use Rattle.lpt_apart.proofs.laws.moves_bring_the_same.Goals as goal

pub returns : goal.returns
returns f = moves_bring_the_same
