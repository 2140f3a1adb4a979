-- The lemma says it.
use Rattle.lpt_passes.proofs.ImageLemmas.{range_stays}
use Rattle.lpt_passes.proofs.laws_reported.range_stays.Goals as goal

pub returns : goal.returns
returns c = range_stays
