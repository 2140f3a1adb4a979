-- Both say the same of the part.
use Rattle.lpt_ground.proofs.UplinkLemmas.{packets-are-the-nodes}
use Rattle.lpt_ground.proofs.laws_large.packets_are_the_nodes.Goals as goal

pub returns : goal.returns
returns c = packets-are-the-nodes
