-- Where the length is in its bounds, the end decides.
-- The search alone proves it. It is written out so that a wrong body is refused at once.
use Rattle.std.proofs.Common.{rules}
use Rattle.lpt_part.proofs.fitting.length_fits.Goals as goal

pub returns-then-len-p : goal.returns-then-len-p
returns-then-len-p c = search rules
