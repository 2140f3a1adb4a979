-- The lemma says it.
use Rattle.lpt_ground.proofs.OverlapLemmas.{overlap-shared}
use Rattle.lpt_ground.proofs.laws.overlap_is_shared.Goals as goal

pub returns : goal.returns
returns c = overlap-shared
