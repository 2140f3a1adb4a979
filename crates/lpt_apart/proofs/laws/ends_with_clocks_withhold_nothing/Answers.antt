use Rattle.lpt_apart.proofs.Clocks.{ends_with_clocks_withhold_nothing}
use Rattle.lpt_apart.proofs.laws.ends_with_clocks_withhold_nothing.Goals as goal

pub returns : goal.returns
returns f = ends_with_clocks_withhold_nothing
