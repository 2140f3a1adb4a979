-- The pass is computed.
use Rattle.lpt_journal_examples.proofs.JobRows.{executed_load-pass, executed_load-left, executed_load-reported}
use Rattle.lpt_journal_examples.proofs.laws.executed_load_is_legal.Goals as goal

pub returns : goal.returns
returns c = record { pass = executed_load-pass; left = executed_load-left; reported = executed_load-reported }
