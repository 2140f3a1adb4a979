-- What a packet is to the spacecraft.
use Rattle.lpt_packet.specs.Packets.{fields}
use Rattle.lpt_pus.specs.Commands.{command}
use Rattle.lpt_node.proofs.ArrivalLemmas.{uplink_part, uplink_request}
use Rattle.lpt_node.proofs.parsed.layout_in_uplink.Goals as goal

pub returns-in-Some : goal.returns-in-Some
returns-in-Some c =
    λ b e. uplink_part b (fields c.args.packet.now) (command c.in-Ok.head c.in-Ok.field-0-1.now) c.in-Some.kind
    c.in-Ok.ensures.found
    c.in-Ok.ensures.exact
    (c.bodies_stand_last.ensures.command _ _ c.in-Ok.ensures.exact)
    c.in-Some.ensures
    e

pub returns-in-None : goal.returns-in-None
returns-in-None c =
    λ b e. uplink_request b (fields c.args.packet.now) (command c.in-Ok.head c.in-Ok.field-0-1.now)
    c.in-Ok.ensures.exact
    c.in-None.ensures
    e
