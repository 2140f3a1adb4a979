-- Packets, as they are read and written.
use Rattle.std.specs.Prelude.{ℕ, ◌==◌, nat_le, Bool, ◌&&◌, if◌then◌else◌, List, length, Option, Some, None, Ok, Err}
use Rattle.lpt_packet.specs.declared.packet.PacketKind.{PacketKind}
use Rattle.lpt_packet.specs.declared.packet.PacketKind.TheVariants.{Tm, Tc}
use Rattle.lpt_packet.specs.Packets.{Fields, fields_of, packet_type, spelling}
use Rattle.lpt_packet.specs.Sizes.{primary_header, longest_field}
use Rattle.lpt_c.specs.declared.packets.LptPacket.{LptPacket}
use Rattle.lpt_c.specs.Buffers.{BufferText}
use Rattle.lpt_c.specs.Codes.{range, too_long}

-- the packet type of a number, 0 or 1
abbrev pub kind_of_number : ℕ → Option PacketKind
kind_of_number n = if n == 0 then Some Tm else if n == 1 then Some Tc else None

-- whether an APID and a sequence count are in their ranges
abbrev pub in_range : ℕ → ℕ → Bool
in_range apid count = nat_le apid 2046 && nat_le count 16383

-- the packet that is to be written
abbrev pub packet_text : Option PacketKind → (apid count : ℕ) → List ℕ → BufferText
packet_text None apid count field = Err range
packet_text (Some kind) apid count field =
    if in_range apid count then
    (if nat_le (length field) longest_field then Ok (spelling (fields_of kind apid count field))
    else Err too_long)
    else Err range

-- a packet as it is reported: its data field stands behind the primary header
abbrev pub packet_told : Fields → LptPacket
packet_told f = record {
  kind = packet_type f.kind;
  apid = f.apid;
  count = f.count;
  at = primary_header;
  len = length f.octets;
}
