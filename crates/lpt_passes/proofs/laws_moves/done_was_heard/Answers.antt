-- The lemma says it.
use Rattle.lpt_passes.proofs.ChainLemmas.{done-heard}
use Rattle.lpt_passes.proofs.laws_moves.done_was_heard.Goals as goal

pub returns : goal.returns
returns c = done-heard
