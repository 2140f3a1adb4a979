-- The lemma says it.
use Rattle.lpt_journal.proofs.LeavingLemmas.{leavings_are_told}
use Rattle.lpt_journal.proofs.laws.leavings_are_told.Goals as goal

pub returns : goal.returns
returns c = leavings_are_told
