-- The lemma says it.
use Rattle.lpt_layout_join.proofs.SureLemmas.{written-in-order}
use Rattle.lpt_layout_join.proofs.laws.written_is_in_order.Goals as goal

pub returns : goal.returns
returns c = λ r n bs len m bare ends is. written-in-order r n bs len m bare ends is
