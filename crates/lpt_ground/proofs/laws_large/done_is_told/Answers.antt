-- The request's pass heard all that was heard.
use Rattle.lpt_ground.proofs.UplinkLemmas.{done-is-told}
use Rattle.lpt_ground.proofs.laws_large.done_is_told.Goals as goal

pub returns : goal.returns
returns c = done-is-told
