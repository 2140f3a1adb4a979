-- The lemma says it.
use Rattle.lpt_journal.proofs.WholeLemmas.{nothing_is_withheld}
use Rattle.lpt_journal.proofs.laws.nothing_is_withheld.Goals as goal

pub returns : goal.returns
returns c = nothing_is_withheld
