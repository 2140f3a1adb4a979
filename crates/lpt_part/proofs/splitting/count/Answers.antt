-- The quotient, rounded up. It is written out so that a wrong body is refused at once.
use Rattle.std.proofs.Common.{arith}
use Rattle.lpt_part.proofs.splitting.count.Goals as goal

pub returns : goal.returns
returns c = grind arith
