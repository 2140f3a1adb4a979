-- The report of data stands between those of acceptance and start and that of completion.
-- The search alone proves it. It is written out so that a wrong body is refused at once.
use Rattle.std.proofs.Common.{rules}
use Rattle.lpt_execution.proofs.reporting.reports_around.Goals as goal

pub returns : goal.returns
returns c = search rules
