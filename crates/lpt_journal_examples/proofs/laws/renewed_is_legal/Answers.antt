-- The pass is computed.
use Rattle.lpt_journal_examples.proofs.RestartRows.{renewed-pass, renewed-stale, renewed-released, renewed-left}
use Rattle.lpt_journal_examples.proofs.laws.renewed_is_legal.Goals as goal

pub returns : goal.returns
returns c = record { pass = renewed-pass; stale = renewed-stale; released = renewed-released; left = renewed-left }
