-- Where nothing is under way, it is gone if there is no reception.
-- The search alone proves it. It is written out so that a wrong body is refused at once.
use Rattle.std.proofs.Common.{rules}
use Rattle.lpt_system.proofs.system.System.is_gone.Goals as goal

pub returns-then-not-holds : goal.returns-then-not-holds
returns-then-not-holds c = search rules
