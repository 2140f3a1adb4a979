-- The lemma says it.
use Rattle.lpt_service.proofs.ServedLemmas.{each_journal_is_a_run}
use Rattle.lpt_service.proofs.laws.each_journal_is_a_run.Goals as goal

pub returns : goal.returns
returns c = each_journal_is_a_run
