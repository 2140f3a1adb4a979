-- A packet of the link has up to four octets more than a part.
-- The search alone proves it. It is written out so that a wrong body is refused at once.
use Rattle.std.proofs.Common.{rules}
use Rattle.lpt_execution.proofs.executing.is_small.Goals as goal

pub returns : goal.returns
returns c = search rules
