-- The other codes are greater than those of acceptance.
-- The search alone proves it. It is written out so that a wrong body is refused at once.
use Rattle.std.proofs.Common.{rules}
use Rattle.lpt_verify.proofs.writing.is_of_acceptance.Goals as goal

pub returns-in_default : goal.returns-in_default
returns-in_default c = search rules
