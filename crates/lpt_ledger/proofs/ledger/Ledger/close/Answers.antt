-- The identifier was open.
-- The search alone proves it. It is written out so that a wrong body is refused at once.
use Rattle.std.proofs.Common.{rules}
use Rattle.lpt_ledger.proofs.ledger.Ledger.close.Goals as goal

pub returns-clause-enabled : goal.returns-clause-enabled
returns-clause-enabled c = search rules
