-- Each part of the node is as after a restart.
use Rattle.std.proofs.Common.{ap}
use Rattle.lpt_node.specs.Restarts.{node_restarted}
use Rattle.lpt_node.specs.NodeInside.{OpenMessages}
use Rattle.lpt_node.specs.Nodes.{NodeView}
use Rattle.lpt_node.specs.Receivers.{ReceiverState}
use Rattle.lpt_node.proofs.node.Node.restart.Goals as goal

pub returns-clause-at : goal.returns-clause-at
returns-clause-at c =
    cc (
      ap (λ (o : OpenMessages). o.messages) c.close_open.ensures.empty,
      ap (λ (r : ReceiverState). r.ledger) c.clear.ensures,
      ap (λ (r : ReceiverState). r.entries) c.clear.ensures,
      ap (λ (n : NodeView). node_restarted n.at) c.self.view_is,
    )
