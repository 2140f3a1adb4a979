-- A body that isn't too long is short enough for a packet.
use Rattle.std.proofs.Common.{arith}
use Rattle.lpt_node.proofs.node.Node.refusal_plain.Goals as goal

pub returns-clause-fits : goal.returns-clause-fits
returns-clause-fits c = omega arith
