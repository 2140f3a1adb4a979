-- The verdict says what the packet is.
use Rattle.lpt_packet.specs.declared.packet.PacketKind.TheVariants.{Tm}
use Rattle.lpt_layout.specs.Messages.{message_said}
use Rattle.lpt_layout.specs.Packets.{fields}
use Rattle.lpt_layout.proofs.MessageLemmas.{found_by_verdict}
use Rattle.lpt_layout.proofs.reading.read_tm_as.Goals as goal

pub returns-clause-found : goal.returns-clause-found
returns-clause-found c =
    let packet = c.args.packet.now in
    found_by_verdict message_said c.read_as.result c.args.layout.now Tm (fields packet)
    packet.in_range
    packet.octets c.read_as.ensures
