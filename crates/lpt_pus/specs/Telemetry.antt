-- Telemetry: how a packet encodes it, and how it is read.
use Rattle.std.specs.Prelude.{◌≡◌, ℕ, ◌+◌, ◌/◌, ◌%◌, ◌^◌, ◌<◌, ◌≤◌, ◌==◌, nat_le, Bool, true, false, List, ◌∷◌, ◌++◌, length, drop, slice_index, Option, Some, Result, Ok}
use Rattle.lpt_packet.specs.declared.packet.PacketKind.{PacketKind}
use Rattle.lpt_packet.specs.declared.packet.PacketKind.TheVariants.{Tm, Tc}
use Rattle.lpt_packet.specs.Numbers.{be, word_at}
use Rattle.lpt_packet.specs.Packets.{Fields, fields_of, APacket, packet_seen}
use Rattle.lpt_pus.specs.declared.fault.PusFault.{PusFault}
use Rattle.lpt_pus.specs.declared.tm_head.TmHead.{TmHead}
use Rattle.lpt_pus.specs.Numbers.{long_at}
use Rattle.lpt_pus.specs.Messages.{headers_tested, for_apid, in_packet}
use Rattle.lpt_pus.specs.Ranges.{TmFits}
use Rattle.lpt_pus.specs.Sizes.{tm_header, longest_tm_body}

-- what a telemetry message says
pub record Telemetry : Type 0 where
  pub apid : ℕ
  pub count : ℕ
  pub status : ℕ
  pub service : ℕ
  pub subtype : ℕ
  pub counter : ℕ
  pub destination : ℕ
  pub time : ℕ
  pub body : List ℕ

-- the telemetry of a head and a body
abbrev pub telemetry : TmHead → List ℕ → Telemetry
telemetry h body = record {
  apid = h.apid;
  count = h.count;
  status = h.status;
  service = h.service;
  subtype = h.subtype;
  counter = h.counter;
  destination = h.destination;
  time = h.time;
  body = body;
}

-- what is written of telemetry: its status is 0
abbrev pub as_written : Telemetry → Telemetry
as_written t = record t { status = 0 }

-- all that a telemetry message says is in its range
pub record TelemetryFits (t : Telemetry) : Type 0 where
  pub head_fits : TmFits t.apid t.count t.status
  pub service_fits : t.service < 256
  pub subtype_fits : t.subtype < 256
  pub counter_fits : t.counter < 65536
  pub destination_fits : t.destination < 65536
  pub time_fits : t.time < 2 ^ 32
  pub body_fits : length t.body ≤ longest_tm_body

-- PUS version 4 bits, 2; time reference status 4; service type 8; message subtype 8;
-- message type counter 16; destination ID 16; time 32; then the body
unfoldable pub tm_field : Telemetry → List ℕ
tm_field t =
    (32 + t.status) ∷ t.service ∷ t.subtype ∷ be t.counter 2
    ++ be t.destination 2 ++ be t.time 4 ++ t.body

-- the packet of a telemetry message
abbrev pub tm_packet_of : Telemetry → Fields
tm_packet_of t = fields_of Tm t.apid t.count (tm_field t)

-- the packet is this telemetry
pub record IsTelemetry (f : Fields) (t : Telemetry) : Type 0 where
  pub fits : TelemetryFits t
  pub spelled : f ≡ tm_packet_of t

-- what stands at a telemetry message's places
abbrev pub telemetry_at : Fields → Telemetry
telemetry_at f = record {
  apid = f.apid;
  count = f.count;
  status = slice_index f.octets 0 % 16;
  service = slice_index f.octets 1;
  subtype = slice_index f.octets 2;
  counter = word_at f.octets 3;
  destination = word_at f.octets 5;
  time = long_at f.octets 7;
  body = drop tm_header f.octets;
}

-- whether a packet's type is TM
abbrev pub is_tm : PacketKind → Bool
is_tm Tm = true
is_tm Tc = false

-- the telemetry that a packet is, or the first test that it fails
unfoldable pub tm_verdict : Fields → Result Telemetry PusFault
tm_verdict f =
    headers_tested (is_tm f.kind) (nat_le tm_header (length f.octets))
    (slice_index f.octets 0 / 16 == 2)
    (telemetry_at f)

-- the telemetry that octets are, if they are the packet of it with this APID
unfoldable pub telemetry_in : ℕ → List ℕ → Option Telemetry
telemetry_in apid b = in_packet (λ f. for_apid (λ t. t.apid) apid (tm_verdict f)) (packet_seen b)

-- the octets are a packet, and it is this telemetry with this APID
pub record IsTelemetryIn (apid : ℕ) (b : List ℕ) (t : Telemetry) : Type 0 where
  pub packet : Fields
  pub is_packet : packet_seen b ≡ Some (APacket packet)
  pub is_telemetry : tm_verdict packet ≡ Ok t
  pub is_for : t.apid ≡ apid
