-- The lemma says it.
use Rattle.lpt_layout_join.proofs.EvenLemmas.{even-gathered}
use Rattle.lpt_layout_join.proofs.laws.parts_are_even.Goals as goal

pub returns : goal.returns
returns c = even-gathered
