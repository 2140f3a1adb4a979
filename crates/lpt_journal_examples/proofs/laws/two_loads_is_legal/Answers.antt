-- The pass is computed.
use Rattle.lpt_journal_examples.proofs.JobRows.{two_loads-pass, two_loads-in_order, two_loads-left}
use Rattle.lpt_journal_examples.proofs.laws.two_loads_is_legal.Goals as goal

pub returns : goal.returns
returns c = record { pass = two_loads-pass; in_order = two_loads-in_order; left = two_loads-left }
