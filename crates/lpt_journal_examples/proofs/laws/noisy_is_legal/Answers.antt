-- The pass is computed.
use Rattle.lpt_journal_examples.proofs.PassRows.{noisy-pass, noisy-up, noisy-down, noisy-released}
use Rattle.lpt_journal_examples.proofs.laws.noisy_is_legal.Goals as goal

pub returns : goal.returns
returns c = record { pass = noisy-pass; up = noisy-up; down = noisy-down; released = noisy-released }
