-- The verdict is that of a packet that has a packet error control.
use Rattle.std.proofs.Common.{◌∙◌, sym, ap, rules, Ok}
use Rattle.lpt_packet.specs.declared.packet.Seen.{Seen}
use Rattle.lpt_packet.specs.Packets as packets
use Rattle.lpt_packet.specs.Packets.{Fields, APacket}
use Rattle.lpt_layout.specs.Packets.{verdict_as}
use Rattle.lpt_layout.proofs.packet_reading.sealed_packet.Goals as goal

pub returns-in_err-read_packet : goal.returns-in_err-read_packet
unfolding verdict_as
returns-in_err-read_packet c = search rules

pub returns-in-Idle : goal.returns-in-Idle
unfolding verdict_as
returns-in-Idle c = search rules

pub returns-in-Packet : goal.returns-in-Packet
unfolding verdict_as
returns-in-Packet c =
    c.in_ok-read_packet.ensures.exact
    ∙ ap (λ (s : Seen). Ok (packets.sight s)) c.in-Packet.is
    ∙ ap (λ (f : Fields). Ok (APacket f)) (sym c.of.ensures)
