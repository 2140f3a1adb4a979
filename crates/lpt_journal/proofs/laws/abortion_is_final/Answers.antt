-- The lemma says it.
use Rattle.lpt_journal.proofs.AbortionLemmas.{abortion_is_final}
use Rattle.lpt_journal.proofs.laws.abortion_is_final.Goals as goal

pub returns : goal.returns
returns c = abortion_is_final
