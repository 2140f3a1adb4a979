-- The lemma says it.
use Rattle.lpt_passes.proofs.PassLemmas.{passes_leave_the_image}
use Rattle.lpt_passes.proofs.laws.passes_leave_the_image.Goals as goal

pub returns : goal.returns
returns c = passes_leave_the_image
