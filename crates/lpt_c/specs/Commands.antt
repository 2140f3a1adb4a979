-- Telecommands, as they are read and written.
use Rattle.std.specs.Prelude.{ℕ, ◌+◌, nat_le, Bool, ◌&&◌, if◌then◌else◌, List, length, Result, Ok, Err}
use Rattle.lpt_pus.specs.Commands.{Command, packet_of, tc_verdict}
use Rattle.lpt_packet.specs.Packets.{spelling}
use Rattle.lpt_packet.specs.Sizes.{primary_header}
use Rattle.lpt_pus.specs.Sizes.{tc_header, longest_tc_body}
use Rattle.lpt_c.specs.declared.commands.LptTcHead.{LptTcHead}
use Rattle.lpt_c.specs.declared.commands.LptTc.{LptTc}
use Rattle.lpt_c.specs.Buffers.{BufferText}
use Rattle.lpt_c.specs.Codes.{range, too_long}
use Rattle.lpt_c.specs.Packets.{in_range}
use Rattle.lpt_c.specs.Readings.{message_read, packet_read}

-- the telecommand of a head and a body
abbrev pub command : LptTcHead → List ℕ → Command
command h body = record {
  apid = h.apid;
  count = h.count;
  flags = h.flags;
  service = h.service;
  subtype = h.subtype;
  source = h.source;
  body = body;
}

-- whether a head's numbers are in their ranges
abbrev pub tc_fits : LptTcHead → Bool
tc_fits h = in_range h.apid h.count && nat_le h.flags 15

-- the packet of a telecommand
abbrev pub tc_packet : LptTcHead → List ℕ → List ℕ
tc_packet h body = spelling (packet_of (command h body))

-- the packet that is to be written
abbrev pub tc_text : LptTcHead → List ℕ → BufferText
tc_text h body =
    if tc_fits h then
    (if nat_le (length body) longest_tc_body then Ok (tc_packet h body) else Err too_long)
    else Err range

-- the telecommand that octets are the packet of
abbrev pub tc_read : List ℕ → Result Command ℕ
tc_read b = message_read tc_verdict (packet_read b)

-- a telecommand's head as it is reported
abbrev pub tc_head_told : Command → LptTcHead
tc_head_told c = record {
  apid = c.apid;
  count = c.count;
  flags = c.flags;
  service = c.service;
  subtype = c.subtype;
  source = c.source;
}

-- a telecommand as it is reported: its body stands behind both headers
abbrev pub tc_told : Command → LptTc
tc_told c = record {
  head = tc_head_told c;
  at = primary_header + tc_header;
  len = length c.body;
}
