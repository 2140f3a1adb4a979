-- The lemma says it.
use Rattle.lpt_journal.proofs.HeadlineLemmas.{headline}
use Rattle.lpt_journal.proofs.laws.headline.Goals as goal

pub returns : goal.returns
returns c = headline
