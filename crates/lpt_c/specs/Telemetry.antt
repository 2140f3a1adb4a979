-- Telemetry, as it is read and written.
use Rattle.std.specs.Prelude.{ℕ, ◌+◌, nat_le, Bool, ◌&&◌, if◌then◌else◌, List, length, Result, Ok, Err}
use Rattle.lpt_pus.specs.Telemetry.{Telemetry, as_written, tm_packet_of, tm_verdict}
use Rattle.lpt_packet.specs.Packets.{spelling}
use Rattle.lpt_packet.specs.Sizes.{primary_header}
use Rattle.lpt_pus.specs.Sizes.{tm_header, longest_tm_body}
use Rattle.lpt_c.specs.declared.telemetry.LptTmHead.{LptTmHead}
use Rattle.lpt_c.specs.declared.telemetry.LptTm.{LptTm}
use Rattle.lpt_c.specs.Buffers.{BufferText}
use Rattle.lpt_c.specs.Codes.{range, too_long}
use Rattle.lpt_c.specs.Packets.{in_range}
use Rattle.lpt_c.specs.Readings.{message_read, packet_read}

-- the telemetry of a head and a body
abbrev pub telemetry : LptTmHead → List ℕ → Telemetry
telemetry h body = record {
  apid = h.apid;
  count = h.count;
  status = h.status;
  service = h.service;
  subtype = h.subtype;
  counter = h.counter;
  destination = h.destination;
  time = h.time;
  body = body;
}

-- whether a head's numbers are in their ranges
abbrev pub tm_fits : LptTmHead → Bool
tm_fits h = in_range h.apid h.count && nat_le h.status 15

-- the packet that is written of telemetry: its status is 0
abbrev pub tm_packet : LptTmHead → List ℕ → List ℕ
tm_packet h body = spelling (tm_packet_of (as_written (telemetry h body)))

-- the packet that is to be written
abbrev pub tm_text : LptTmHead → List ℕ → BufferText
tm_text h body =
    if tm_fits h then
    (if nat_le (length body) longest_tm_body then Ok (tm_packet h body) else Err too_long)
    else Err range

-- the telemetry that octets are the packet of
abbrev pub tm_read : List ℕ → Result Telemetry ℕ
tm_read b = message_read tm_verdict (packet_read b)

-- telemetry's head as it is reported
abbrev pub tm_head_told : Telemetry → LptTmHead
tm_head_told t = record {
  apid = t.apid;
  count = t.count;
  status = t.status;
  service = t.service;
  subtype = t.subtype;
  counter = t.counter;
  destination = t.destination;
  time = t.time;
}

-- telemetry as it is reported: its body stands behind both headers
abbrev pub tm_told : Telemetry → LptTm
tm_told t = record {
  head = tm_head_told t;
  at = primary_header + tm_header;
  len = length t.body;
}
