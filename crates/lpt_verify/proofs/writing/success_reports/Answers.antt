-- Each report that is asked for is behind those before it.
-- The search alone proves it. It is written out so that a wrong body is refused at once.
use Rattle.std.proofs.Common.{rules}
use Rattle.lpt_verify.proofs.writing.success_reports.Goals as goal

pub returns-clause-before : goal.returns-clause-before
returns-clause-before c = search rules
