-- What a head says.
use Rattle.std.proofs.Common.{[], ◌∙◌, ap}
use Rattle.lpt_events.specs.MadePackets.{telemetry_made}
use Rattle.lpt_events.specs.TelemetryKinds.{service_of, subtype_of}
use Rattle.lpt_node.specs.Counting.{counter_of}
use Rattle.lpt_node.specs.Nodes.{NodeView}
use Rattle.lpt_node.proofs.node.Node.head.Goals as goal

pub returns : goal.returns
returns c =
    (λ i. telemetry_made c.self.inside.config c.args.peer c.args.counts.now.count (c.counter.ensures i) c.self.inside.clock
    (c.service.ensures i) (c.subtype.ensures i) [])
    ∙ ap (λ (n : NodeView). telemetry_made n.config c.args.peer c.args.counts.now.count (counter_of c.args.counts.now.types c.args.kind) n.at.clock
    (service_of c.args.kind) (subtype_of c.args.kind) []) c.self.view_is
