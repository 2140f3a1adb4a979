-- The pass is computed.
use Rattle.lpt_journal_examples.proofs.PassRows.{two_expire-pass, two_expire-expired, two_expire-released}
use Rattle.lpt_journal_examples.proofs.laws.two_expire_is_legal.Goals as goal

pub returns : goal.returns
returns c = record { pass = two_expire-pass; expired = two_expire-expired; released = two_expire-released }
