-- What is known of a transaction is what the journal says of it.
-- The search alone proves it. It is written out so that a wrong body is refused at once.
use Rattle.std.proofs.Common.{rules}
use Rattle.lpt_world.proofs.world.World.is_clear.Goals as goal

pub returns-then-not-is_receiving : goal.returns-then-not-is_receiving
returns-then-not-is_receiving c = search rules

pub returns-else-not-is_receiving : goal.returns-else-not-is_receiving
returns-else-not-is_receiving c = search rules
