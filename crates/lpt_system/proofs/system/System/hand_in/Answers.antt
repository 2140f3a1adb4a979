-- A reading that came too late is answered as stale.
-- The search alone proves it. It is written out so that a wrong body is refused at once.
use Rattle.std.proofs.Common.{rules}
use Rattle.lpt_system.proofs.system.System.hand_in.Goals as goal

pub returns-else-commit-clause-reply : goal.returns-else-commit-clause-reply
returns-else-commit-clause-reply c = search rules
