use Rattle.lpt_apart.proofs.Moving.{ends_apart_are_a_world}
use Rattle.lpt_apart.proofs.laws.ends_apart_are_a_world.Goals as goal

pub returns : goal.returns
returns f = ends_apart_are_a_world
