-- What is written fits, and is read again.
use Rattle.std.proofs.Common.{arith, refl}
use Rattle.lpt_packet.specs.Packets.{APacket}
use Rattle.lpt_layout.specs.Messages.{packet_of}
use Rattle.lpt_layout.specs.Writes.{octets_as}
use Rattle.lpt_layout.proofs.BareLemmas.{again, length-spelling_as}
use Rattle.lpt_layout.proofs.MessageLemmas.{length-field_of, message_verdict-packet_of}
use Rattle.lpt_layout.proofs.PartLemmas.{part_again}
use Rattle.lpt_layout.proofs.laws.written_is_read.Goals as goal

pub returns-clause-packet : goal.returns-clause-packet
returns-clause-packet c l kind s h fits =
    let f = packet_of l kind s in
    let long = length-spelling_as l.has_checksum f in
    let some = length-field_of l s h in
    again l.has_checksum (octets_as l kind s) (APacket f) (record {
      ranges = record {
        apid_fits = h.ranges.apid_fits;
        count_fits = h.ranges.count_fits;
        some = omega (arith, some);
        field_fits = omega (arith, long);
      };
      spelled = refl;
    })

pub returns-clause-message : goal.returns-clause-message
returns-clause-message c = message_verdict-packet_of

pub returns-clause-part : goal.returns-clause-part
returns-clause-part c = part_again
