-- The lemma says it.
use Rattle.lpt_passes.proofs.ImageLemmas.{pass_leaves_the_image}
use Rattle.lpt_passes.proofs.laws_reported.pass_leaves_the_image.Goals as goal

pub returns : goal.returns
returns c = pass_leaves_the_image
