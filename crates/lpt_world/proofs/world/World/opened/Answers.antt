-- The openings of the system are the journal's.
-- The search alone proves it. It is written out so that a wrong body is refused at once.
use Rattle.std.proofs.Common.{rules}
use Rattle.lpt_world.proofs.world.World.opened.Goals as goal

pub returns : goal.returns
returns c = search rules
