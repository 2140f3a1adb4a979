-- What a packet is on ground.
use Rattle.lpt_packet.specs.Packets.{fields}
use Rattle.lpt_pus.specs.Telemetry.{telemetry}
use Rattle.lpt_node.proofs.ArrivalLemmas.{downlink_part, downlink_abort}
use Rattle.lpt_node.proofs.parsed.layout_in_downlink.Goals as goal

pub returns-in-Some : goal.returns-in-Some
returns-in-Some c =
    λ b e. downlink_part b (fields c.args.packet.now) (telemetry c.in-Ok.head c.in-Ok.field-0-1.now) c.in-Some.kind
    c.in-Ok.ensures.found
    c.in-Ok.ensures.exact
    (c.bodies_stand_last.ensures.telemetry _ _ c.in-Ok.ensures.exact)
    c.in-Some.ensures
    e

pub returns-then-head-eq-ABORT : goal.returns-then-head-eq-ABORT
returns-then-head-eq-ABORT c =
    λ b e. downlink_abort b (fields c.args.packet.now) (telemetry c.in-Ok.head c.in-Ok.field-0-1.now)
    c.in-Ok.ensures.found
    c.in-Ok.ensures.exact
    (c.bodies_stand_last.ensures.telemetry _ _ c.in-Ok.ensures.exact)
    c.in-None.ensures
    c.if-head-eq-TRANSFER.true
    c.if-head-eq-ABORT.true
    e
