-- The lemma says it.
use Rattle.lpt_journal.proofs.WorkLemmas.{work_is_of_its_boot}
use Rattle.lpt_journal.proofs.laws.work_is_of_its_boot.Goals as goal

pub returns : goal.returns
returns c = work_is_of_its_boot
