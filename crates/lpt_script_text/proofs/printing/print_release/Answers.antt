-- A plain message has no transaction in its line.
-- The search alone proves it. It is written out so that a wrong body is refused at once.
use Rattle.std.proofs.Common.{rules}
use Rattle.lpt_script_text.proofs.printing.print_release.Goals as goal

pub returns : goal.returns
returns c = rw c.in-None.is (search rules)
