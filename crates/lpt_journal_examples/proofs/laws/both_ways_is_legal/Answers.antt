-- The pass is computed.
use Rattle.lpt_journal_examples.proofs.PassRows.{both_ways-pass, both_ways-released}
use Rattle.lpt_journal_examples.proofs.laws.both_ways_is_legal.Goals as goal

pub returns : goal.returns
returns c = record { pass = both_ways-pass; released = both_ways-released }
