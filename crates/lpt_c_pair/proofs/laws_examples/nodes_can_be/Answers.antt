use Rattle.lpt_c_pair.proofs.Noding.{nodes_can_be}
use Rattle.lpt_c_pair.proofs.laws_examples.nodes_can_be.Goals as goal

pub returns : goal.returns
returns f = nodes_can_be
