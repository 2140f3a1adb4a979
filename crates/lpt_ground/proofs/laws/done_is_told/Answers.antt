-- Each was told by a packet that was heard.
use Rattle.lpt_ground.proofs.CarryLemmas.{done-told}
use Rattle.lpt_ground.proofs.laws.done_is_told.Goals as goal

pub returns : goal.returns
returns c = done-told
