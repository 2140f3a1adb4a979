-- Telecommands: how a packet encodes one, and how one is read.
use Rattle.std.specs.Prelude.{◌≡◌, ℕ, ◌+◌, ◌/◌, ◌%◌, ◌<◌, ◌≤◌, ◌==◌, nat_le, Bool, true, false, List, ◌∷◌, ◌++◌, length, drop, slice_index, Option, Some, Result, Ok}
use Rattle.lpt_packet.specs.declared.packet.PacketKind.{PacketKind}
use Rattle.lpt_packet.specs.declared.packet.PacketKind.TheVariants.{Tm, Tc}
use Rattle.lpt_packet.specs.Numbers.{be, word_at}
use Rattle.lpt_packet.specs.Packets.{Fields, fields_of, APacket, packet_seen}
use Rattle.lpt_pus.specs.declared.fault.PusFault.{PusFault}
use Rattle.lpt_pus.specs.declared.tc_head.TcHead.{TcHead}
use Rattle.lpt_pus.specs.Messages.{headers_tested, for_apid, in_packet}
use Rattle.lpt_pus.specs.Ranges.{TcFits}
use Rattle.lpt_pus.specs.Sizes.{tc_header, longest_tc_body}

-- what a telecommand says
pub record Command : Type 0 where
  pub apid : ℕ
  pub count : ℕ
  pub flags : ℕ
  pub service : ℕ
  pub subtype : ℕ
  pub source : ℕ
  pub body : List ℕ

-- the telecommand of a head and a body
abbrev pub command : TcHead → List ℕ → Command
command h body = record {
  apid = h.apid;
  count = h.count;
  flags = h.flags;
  service = h.service;
  subtype = h.subtype;
  source = h.source;
  body = body;
}

-- all that a telecommand says is in its range
pub record CommandFits (c : Command) : Type 0 where
  pub head_fits : TcFits c.apid c.count c.flags
  pub service_fits : c.service < 256
  pub subtype_fits : c.subtype < 256
  pub source_fits : c.source < 65536
  pub body_fits : length c.body ≤ longest_tc_body

-- PUS version 4 bits, 2; acknowledgement flags 4; service type 8; message subtype 8;
-- source ID 16; then the body
unfoldable pub tc_field : Command → List ℕ
tc_field c = (32 + c.flags) ∷ c.service ∷ c.subtype ∷ be c.source 2 ++ c.body

-- the packet of a telecommand
abbrev pub packet_of : Command → Fields
packet_of c = fields_of Tc c.apid c.count (tc_field c)

-- the packet is this telecommand
pub record IsCommand (f : Fields) (c : Command) : Type 0 where
  pub fits : CommandFits c
  pub spelled : f ≡ packet_of c

-- what stands at a telecommand's places
abbrev pub command_at : Fields → Command
command_at f = record {
  apid = f.apid;
  count = f.count;
  flags = slice_index f.octets 0 % 16;
  service = slice_index f.octets 1;
  subtype = slice_index f.octets 2;
  source = word_at f.octets 3;
  body = drop tc_header f.octets;
}

-- whether a packet's type is TC
abbrev pub is_tc : PacketKind → Bool
is_tc Tc = true
is_tc Tm = false

-- the telecommand that a packet is, or the first test that it fails
unfoldable pub tc_verdict : Fields → Result Command PusFault
tc_verdict f =
    headers_tested (is_tc f.kind) (nat_le tc_header (length f.octets))
    (slice_index f.octets 0 / 16 == 2)
    (command_at f)

-- the telecommand that octets are, if they are the packet of one with this APID
unfoldable pub command_in : ℕ → List ℕ → Option Command
command_in apid b = in_packet (λ f. for_apid (λ c. c.apid) apid (tc_verdict f)) (packet_seen b)

-- the octets are a packet, and it is this telecommand with this APID
pub record IsCommandIn (apid : ℕ) (b : List ℕ) (c : Command) : Type 0 where
  pub packet : Fields
  pub is_packet : packet_seen b ≡ Some (APacket packet)
  pub is_command : tc_verdict packet ≡ Ok c
  pub is_for : c.apid ≡ apid
