-- One end is restarted, and nothing else has changed.
-- The search alone proves it. It is written out so that a wrong body is refused at once.
use Rattle.std.proofs.Common.{rules}
use Rattle.lpt_system.proofs.system.System.restart.Goals as goal

pub returns-clause-ok : goal.returns-clause-ok
returns-clause-ok c = search rules
