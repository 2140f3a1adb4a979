-- The spacecraft gets no abortion report, and ground no request.
use Rattle.std.proofs.Common.{ℕ, ◌==◌, ◌&&◌, Bool, true, false, if◌then◌else◌, List, Option, Some, None}
use Rattle.std.specs.Option.{option_map_or}
use Rattle.std.specs.Prelude.{slice_get}
use Rattle.std.specs.Result.{result_ok}
use Rattle.lpt_packet.specs.declared.direction.Direction.{Direction}
use Rattle.lpt_packet.specs.declared.direction.Direction.TheVariants.{Up, Down}
use Rattle.lpt_packet.specs.Names.{Name, named_by}
use Rattle.lpt_packet.specs.Packets.{Fields, Sight, IdlePacket, APacket, packet_seen}
use Rattle.lpt_pus.specs.Commands.{Command, tc_verdict}
use Rattle.lpt_pus.specs.Telemetry.{Telemetry, tm_verdict}
use Rattle.lpt_part.specs.declared.kind.Kind.{Kind}
use Rattle.lpt_part.specs.declared.reason.Reason.{Reason}
use Rattle.lpt_part.specs.Aborts.{abort_in}
use Rattle.lpt_part.specs.Parts.{Piece, part_in}
use Rattle.lpt_events.specs.NamedParts.{part_named}
use Rattle.lpt_events.specs.declared.lane.Lane.{Lane}
use Rattle.lpt_events.specs.Lanes.{lane_direction}
use Rattle.lpt_events.specs.Sides.{receiver_side}
use Rattle.lpt_events.specs.declared.config.Config.{Config}
use Rattle.lpt_events.specs.Arrivals.{Arrival, NotRead, AnIdle, Foreign, ARequest, AReport, NoPart, APart, AnAbort, arrival, sight_arrival, packet_arrival, command_arrival, telemetry_arrival, report_arrival, carried_kind, part_arrival, arrival_in}
use Rattle.lpt_journal.specs.Journal.{History, SentPacket}
use Rattle.lpt_journal.specs.Link.{sent}
use Rattle.lpt_journal.specs.Hands.{hand, in_hand, arrival_at}

-- what may come in a direction
abbrev pub MayCome : Direction → Arrival → Type 0
MayCome Up (AnAbort name reason) = ⊥
MayCome Down (ARequest b) = ⊥
MayCome d a = Unit {0}

part_comes : (d : Direction) (source : ℕ) (o : Option Piece)
    → MayCome d (option_map_or (λ q. APart (part_named source q)) o NoPart)
part_comes Up source None = tt
part_comes Up source (Some q) = tt
part_comes Down source None = tt
part_comes Down source (Some q) = tt

command_comes : (p source : ℕ) (b body : List ℕ) (o : Option Kind)
    → MayCome Up (option_map_or (part_arrival p source body) o (ARequest b))
command_comes p source b body None = tt
command_comes p source b body (Some kind) = part_comes Up source (part_in p kind body)

abort_comes : (source : ℕ) (o : Option (ℕ × Reason))
    → MayCome Down (option_map_or (λ a. AnAbort (named_by source a.0) a.1) o NoPart)
abort_comes source None = tt
abort_comes source (Some a) = tt

report_comes : (t : Telemetry) → MayCome Down (report_arrival t)
report_comes t = go ((t.service == 13) && (t.subtype == 16)) where
  go : (u : Bool)
      → MayCome Down
      (if u then option_map_or (λ a. AnAbort (named_by t.destination a.0) a.1) (abort_in t.body) NoPart
      else AReport t.service t.subtype)
  go true = abort_comes t.destination (abort_in t.body)
  go false = tt

telemetry_comes : (p : ℕ) (t : Telemetry) (o : Option Kind)
    → MayCome Down (option_map_or (part_arrival p t.destination t.body) o (report_arrival t))
telemetry_comes p t None = report_comes t
telemetry_comes p t (Some kind) = part_comes Down t.destination (part_in p kind t.body)

packet_comes : (d : Direction) (p : ℕ) (b : List ℕ) (f : Fields)
    → MayCome d (packet_arrival (receiver_side d) p b f)
packet_comes Up p b f = go (result_ok (tc_verdict f)) where
  go : (o : Option Command) → MayCome Up (option_map_or (command_arrival p b) o NotRead)
  go None = tt
  go (Some c) = command_comes p c.source b c.body (carried_kind Up c.service c.subtype)
packet_comes Down p b f = go (result_ok (tm_verdict f)) where
  go : (o : Option Telemetry) → MayCome Down (option_map_or (telemetry_arrival p) o NotRead)
  go None = tt
  go (Some t) = telemetry_comes p t (carried_kind Down t.service t.subtype)

foreign_comes : (d : Direction) → MayCome d Foreign
foreign_comes Up = tt
foreign_comes Down = tt

unread_comes : (d : Direction) → MayCome d NotRead
unread_comes Up = tt
unread_comes Down = tt

idle_comes : (d : Direction) → MayCome d AnIdle
idle_comes Up = tt
idle_comes Down = tt

sight_comes : (d : Direction) (apid p : ℕ) (b : List ℕ) (o : Option Sight)
    → MayCome d (sight_arrival (receiver_side d) apid p b o)
sight_comes d apid p b None = unread_comes d
sight_comes d apid p b (Some IdlePacket) = idle_comes d
sight_comes d apid p b (Some (APacket f)) = go (f.apid == apid) where
  go : (t : Bool) → MayCome d (if t then packet_arrival (receiver_side d) p b f else Foreign)
  go true = packet_comes d p b f
  go false = foreign_comes d

octets_come : (d : Direction) (apid p : ℕ) (b : List ℕ)
    → MayCome d (arrival (receiver_side d) apid p b)
unfolding arrival
octets_come d apid p b = sight_comes d apid p b (packet_seen b)

-- what is in a lane's hand may come in its direction
pub in_hand_comes : (c : Config) (h : History) (l : Lane)
    → MayCome (lane_direction l) (in_hand c h l)
in_hand_comes c h l = go (lane_direction l) (hand h l) where
  at : (d : Direction) (o : Option SentPacket)
      → MayCome d (option_map_or (λ p. arrival_in c d p.octets) o NotRead)
  at d None = unread_comes d
  at d (Some p) = octets_come d c.apid c.part_size p.octets

  go : (d : Direction) (o : Option ℕ) → MayCome d (option_map_or (arrival_at c h d) o NotRead)
  go d None = unread_comes d
  go d (Some n) = at d (slice_get (sent h) n)
