-- The head is written with the report's body.
use Rattle.std.proofs.Common.{[], ◌∙◌, ap, List, ℕ}
use Rattle.lpt_packet.specs.Packets.{spelling}
use Rattle.lpt_pus.specs.Telemetry.{Telemetry, telemetry, tm_packet_of}
use Rattle.lpt_node.proofs.node.Node.report_packet.Goals as goal

pub returns-clause-packet : goal.returns-clause-packet
returns-clause-packet c =
    c.in_ok-packet.ensures
    ∙ ap (λ (b : List ℕ). spelling (tm_packet_of (record (telemetry c.head-head.result []) { status = 0; body = b }))) c.as_slice.ensures.same
    ∙ ap (λ (t : Telemetry). spelling (tm_packet_of (record t { status = 0; body = c.args.report.now.body }))) c.head-head.ensures
