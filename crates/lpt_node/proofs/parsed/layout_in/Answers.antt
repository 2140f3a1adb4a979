-- What octets are to a side.
use Rattle.std.proofs.Common.{◌∙◌, ap, subst, sym, Result}
use Rattle.std.specs.Result.{result_ok}
use Rattle.lpt_packet.specs.declared.fault.PacketFault.{PacketFault}
use Rattle.lpt_packet.specs.declared.packet.Seen.TheVariants as seen_as
use Rattle.lpt_packet.specs.Packets.{Sight, fields}
use Rattle.lpt_events.specs.declared.side.Side.{Side}
use Rattle.lpt_node.specs.Layouts.{IsLayoutIn}
use Rattle.lpt_node.proofs.ArrivalLemmas.{layout_unreadable, layout_idle, layout_foreign, layout_packet}
use Rattle.lpt_packet.proofs.SightLemmas.{seen-read}
use Rattle.lpt_node.proofs.parsed.layout_in.Goals as goal

pub returns-in-Err : goal.returns-in-Err
returns-in-Err c =
    λ p size. layout_unreadable c.args.side c.args.apid p c.args.octets.now
    (c.seen_is_read.ensures.tests c.args.octets.now c.requires
    ∙ ap (λ (r : Result Sight PacketFault). result_ok r) c.in-Err.ensures.exact)
    size

pub returns-in-Ok-Idle : goal.returns-in-Ok-Idle
returns-in-Ok-Idle c =
    λ p size. layout_idle c.args.side c.args.apid p c.args.octets.now
    (seen-read c.args.octets.now c.in-Ok-Idle.field-0 seen_as.Idle
    (c.seen_is_read.ensures.tests c.args.octets.now c.requires) c.in-Ok-Idle.ensures.exact c.in-Ok-Idle.field-0-is)
    size

pub returns-then-packet-apid : goal.returns-then-packet-apid
returns-then-packet-apid c =
    λ p size. layout_foreign c.args.side c.args.apid p c.args.octets.now (fields c.in-Ok-Packet.packet)
    (seen-read c.args.octets.now c.in-Ok-Packet.field-0 (seen_as.Packet c.in-Ok-Packet.packet)
    (c.seen_is_read.ensures.tests c.args.octets.now c.requires) c.in-Ok-Packet.ensures.exact c.in-Ok-Packet.field-0-is)
    c.if-packet-apid.true
    size

pub returns-in-Craft : goal.returns-in-Craft
returns-in-Craft c =
    let e = seen-read c.args.octets.now c.in-Ok-Packet.field-0 (seen_as.Packet c.in-Ok-Packet.packet)
    (c.seen_is_read.ensures.tests c.args.octets.now c.requires) c.in-Ok-Packet.ensures.exact c.in-Ok-Packet.field-0-is in
    λ p size. layout_packet c.args.side c.args.apid p c.args.octets.now (fields c.in-Ok-Packet.packet) c.layout_in_uplink.result
    e
    c.if-packet-apid.false
    (subst (λ (side : Side). IsLayoutIn side (fields c.in-Ok-Packet.packet) c.args.octets.now c.layout_in_uplink.result)
    (sym c.in-Craft.is) (c.layout_in_uplink.ensures c.args.octets.now e))
    size

pub returns-in-Ground : goal.returns-in-Ground
returns-in-Ground c =
    let e = seen-read c.args.octets.now c.in-Ok-Packet.field-0 (seen_as.Packet c.in-Ok-Packet.packet)
    (c.seen_is_read.ensures.tests c.args.octets.now c.requires) c.in-Ok-Packet.ensures.exact c.in-Ok-Packet.field-0-is in
    λ p size. layout_packet c.args.side c.args.apid p c.args.octets.now (fields c.in-Ok-Packet.packet) c.layout_in_downlink.result
    e
    c.if-packet-apid.false
    (subst (λ (side : Side). IsLayoutIn side (fields c.in-Ok-Packet.packet) c.args.octets.now c.layout_in_downlink.result)
    (sym c.in-Ground.is) (c.layout_in_downlink.ensures c.args.octets.now e))
    size
