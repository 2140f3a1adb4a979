-- The parts joined are the message.
use Rattle.lpt_layout.proofs.SplitLemmas.{parts_joined-all}
use Rattle.lpt_layout.proofs.laws.parts_join_as.Goals as goal

pub returns : goal.returns
returns c = parts_joined-all
