-- The search alone proves it. It is written out so that a wrong body is refused at once.
use Rattle.std.proofs.Common.{rules}
use Rattle.lpt_memory.proofs.job.Prepared.is_of.Goals as goal

pub returns-then-same_shape : goal.returns-then-same_shape
returns-then-same_shape c = search rules
