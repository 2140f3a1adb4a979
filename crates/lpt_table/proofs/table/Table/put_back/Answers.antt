-- The reception is back under its name and its old last tick.
-- The search alone proves it. It is written out so that a wrong body is refused at once.
use Rattle.std.proofs.Common.{rules}
use Rattle.lpt_table.proofs.table.Table.put_back.Goals as goal

pub returns-in-Some : goal.returns-in-Some
returns-in-Some c = search rules
