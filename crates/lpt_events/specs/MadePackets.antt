-- The packets that a node makes.
use Rattle.std.specs.Prelude.{ℕ, List}
use Rattle.lpt_packet.specs.declared.direction.Direction.{Direction}
use Rattle.lpt_packet.specs.declared.direction.Direction.TheVariants.{Up, Down}
use Rattle.lpt_packet.specs.Names.{Name}
use Rattle.lpt_packet.specs.Packets.{spelling}
use Rattle.lpt_pus.specs.Commands.{Command, packet_of}
use Rattle.lpt_pus.specs.Telemetry.{Telemetry, tm_packet_of}
use Rattle.lpt_part.specs.declared.reason.Reason.{Reason}
use Rattle.lpt_part.specs.Aborts.{abort_body}
use Rattle.lpt_part.specs.Parts.{Piece, body_of}
pub use Rattle.lpt_part.specs.Parts.{nth_part}
use Rattle.lpt_events.specs.declared.config.Config.{Config}
use Rattle.lpt_events.specs.Arrivals.{part_subtype}
use Rattle.lpt_events.specs.NamedParts.{NamedPart, part_named}

-- what ground's telecommand of this source and count says
abbrev pub command_made : Config → (peer count flags service subtype : ℕ) → List ℕ → Command
command_made c peer count flags service subtype body = record {
  apid = c.apid;
  count = count;
  flags = flags;
  service = service;
  subtype = subtype;
  source = peer;
  body = body;
}

-- what the spacecraft's telemetry to this destination says, of this count, message type counter and time
abbrev pub telemetry_made : Config
    → (peer count counter time service subtype : ℕ)
    → List ℕ
    → Telemetry
telemetry_made c peer count counter time service subtype body = record {
  apid = c.apid;
  count = count;
  status = 0;
  service = service;
  subtype = subtype;
  counter = counter;
  destination = peer;
  time = time;
  body = body;
}

-- the octets of ground's telecommand
abbrev pub tc_made : Config → (peer count flags service subtype : ℕ) → List ℕ → List ℕ
tc_made c peer count flags service subtype body =
    spelling (packet_of (command_made c peer count flags service subtype body))

-- the octets of the spacecraft's telemetry
abbrev pub tm_made : Config → (peer count counter time service subtype : ℕ) → List ℕ → List ℕ
tm_made c peer count counter time service subtype body =
    spelling (tm_packet_of (telemetry_made c peer count counter time service subtype body))

-- part k of a message, under its name
abbrev pub nth_named : (p : ℕ) → Name → List ℕ → ℕ → NamedPart
nth_named p name m k = part_named name.source (nth_part p name.id m k)

-- the octets of a part's packet, of this source or to it; a telecommand has neither counter nor time
abbrev pub part_made : Config → Direction → (peer count counter time : ℕ) → Piece → List ℕ
part_made c Up peer count counter time q =
    tc_made c peer count 0 13 (part_subtype Up q.kind) (body_of q)
part_made c Down peer count counter time q =
    tm_made c peer count counter time 13 (part_subtype Down q.kind) (body_of q)

-- the octets of an abortion report's packet, to the name's source
abbrev pub abort_made : Config → (count counter time : ℕ) → Name → Reason → List ℕ
abort_made c count counter time name reason =
    tm_made c name.source count counter time 13 16 (abort_body name.id reason)
