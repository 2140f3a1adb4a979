use Rattle.lpt_apart.proofs.Stepping.{ends_are_a_world}
use Rattle.lpt_apart.proofs.laws.ends_are_a_world.Goals as goal

pub returns : goal.returns
returns f = ends_are_a_world
