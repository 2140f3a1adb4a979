-- A pass that is done was told so.
use Rattle.lpt_c_ground.proofs.CallLemmas.{completed-told}
use Rattle.lpt_c_ground.proofs.laws.completed_was_told.Goals as goal

pub returns : goal.returns
returns c = completed-told c.done_is_told.ensures
