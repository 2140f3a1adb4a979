-- The lemma says it.
use Rattle.lpt_passes.proofs.ImageLemmas.{loads_leave_the_image}
use Rattle.lpt_passes.proofs.laws_reported.loads_leave_the_image.Goals as goal

pub returns : goal.returns
returns c = loads_leave_the_image
