-- The lemma says it, of what the image is proved to be.
use Rattle.lpt_passes.proofs.AreaLemmas.{done-areas}
use Rattle.lpt_passes.proofs.laws_jobs.done_leaves_the_areas.Goals as goal

pub returns : goal.returns
returns c = done-areas c.done_leaves_the_image.ensures
