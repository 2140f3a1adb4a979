-- What a delivered packet is to the node that receives it, whatever the node has kept.
use Rattle.std.specs.Prelude.{ℕ, ◌==◌, ◌&&◌, not, if◌then◌else◌, List, Option, Some, None}
use Rattle.std.specs.Option.{option_map_or}
use Rattle.std.specs.Result.{result_ok}
use Rattle.lpt_packet.specs.declared.direction.Direction.{Direction}
use Rattle.lpt_packet.specs.declared.direction.Direction.TheVariants.{Up, Down}
use Rattle.lpt_packet.specs.Names.{Name, named_by}
use Rattle.lpt_packet.specs.Packets.{Fields, Sight, IdlePacket, APacket, packet_seen}
use Rattle.lpt_pus.specs.Commands.{Command, tc_verdict}
use Rattle.lpt_pus.specs.Telemetry.{Telemetry, tm_verdict}
use Rattle.lpt_part.specs.declared.kind.Kind.{Kind}
use Rattle.lpt_part.specs.declared.kind.Kind.TheVariants.{First, Middle, Last}
use Rattle.lpt_part.specs.declared.reason.Reason.{Reason}
use Rattle.lpt_part.specs.Aborts.{abort_in}
use Rattle.lpt_part.specs.Parts.{part_in}
use Rattle.lpt_events.specs.declared.side.Side.{Side}
use Rattle.lpt_events.specs.declared.side.Side.TheVariants.{Ground, Craft}
use Rattle.lpt_events.specs.declared.config.Config.{Config}
use Rattle.lpt_events.specs.NamedParts.{NamedPart, part_named}
use Rattle.lpt_events.specs.Sides.{receiver_side}

-- Not read as a packet, or not as a telecommand at the spacecraft or telemetry on ground; idle; of
-- another APID; a telecommand or telemetry that is no part; a part or an abortion report whose
-- body isn't read; a part; an abortion report.
pub data Arrival : Type 0 where
  NotRead : Arrival
  AnIdle : Arrival
  Foreign : Arrival
  ARequest : (octets : List ℕ) → Arrival
  AReport : (service subtype : ℕ) → Arrival
  NoPart : Arrival
  APart : NamedPart → Arrival
  AnAbort : (name : Name) (reason : Reason) → Arrival

-- the message subtype, in service 13, of a part of this kind
abbrev pub part_subtype : Direction → Kind → ℕ
part_subtype Up First = 9
part_subtype Up Middle = 10
part_subtype Up Last = 11
part_subtype Down First = 1
part_subtype Down Middle = 2
part_subtype Down Last = 3

-- the kind of the part that a message of this service and subtype carries, if it carries one
abbrev pub carried_kind : Direction → ℕ → ℕ → Option Kind
carried_kind d service subtype =
    if not (service == 13) then None
    else if subtype == part_subtype d First then Some First
    else if subtype == part_subtype d Middle then Some Middle
    else if subtype == part_subtype d Last then Some Last
    else None

-- what comes with a body that should be a part of this kind, from this source or to it
abbrev pub part_arrival : (p source : ℕ) → List ℕ → Kind → Arrival
part_arrival p source body kind =
    option_map_or (λ q. APart (part_named source q)) (part_in p kind body) NoPart

-- what comes with a body that should be an abortion report's, to this source
abbrev pub abort_arrival : (source : ℕ) → List ℕ → Arrival
abort_arrival source body =
    option_map_or (λ a. AnAbort (named_by source a.0) a.1) (abort_in body) NoPart

-- what a telecommand is to the spacecraft; b is its whole packet
abbrev pub command_arrival : ℕ → List ℕ → Command → Arrival
command_arrival p b c =
    option_map_or (part_arrival p c.source c.body) (carried_kind Up c.service c.subtype) (ARequest b)

-- what telemetry that carries no part is on ground
abbrev pub report_arrival : Telemetry → Arrival
report_arrival t =
    if (t.service == 13) && (t.subtype == 16) then abort_arrival t.destination t.body
    else AReport t.service t.subtype

-- what telemetry is on ground
abbrev pub telemetry_arrival : ℕ → Telemetry → Arrival
telemetry_arrival p t =
    option_map_or (part_arrival p t.destination t.body) (carried_kind Down t.service t.subtype) (report_arrival t)

-- what a packet of the configured APID is to this node; b is the whole packet
abbrev pub packet_arrival : Side → ℕ → List ℕ → Fields → Arrival
packet_arrival Craft p b f = option_map_or (command_arrival p b) (result_ok (tc_verdict f)) NotRead
packet_arrival Ground p b f = option_map_or (telemetry_arrival p) (result_ok (tm_verdict f)) NotRead

-- what octets that are seen as this are to this node
abbrev pub sight_arrival : Side → (apid p : ℕ) → List ℕ → Option Sight → Arrival
sight_arrival side apid p b None = NotRead
sight_arrival side apid p b (Some IdlePacket) = AnIdle
sight_arrival side apid p b (Some (APacket f)) =
    if f.apid == apid then packet_arrival side p b f else Foreign

-- what the node on this side sees in octets that are delivered to it
unfoldable pub arrival : Side → (apid p : ℕ) → List ℕ → Arrival
arrival side apid p b = sight_arrival side apid p b (packet_seen b)

-- the transaction that it is a part of, if it is a part
abbrev pub part_name : Arrival → Option Name
part_name (APart q) = Some q.name
part_name _ = None

-- what octets that go in this direction are
abbrev pub arrival_in : Config → Direction → List ℕ → Arrival
arrival_in c d b = arrival (receiver_side d) c.apid c.part_size b
