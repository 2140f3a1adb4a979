-- Memory runs out for a report of data, which is one of the reports.
use Rattle.std.proofs.Common.{rules}
use Rattle.lpt_execution.proofs.EndingLemmas.{data-made}
use Rattle.lpt_node.proofs.node.Node.ending.Goals as goal

pub returns-in_err-ending-clause-memory : goal.returns-in_err-ending-clause-memory
returns-in_err-ending-clause-memory c = search (rules, data-made)
