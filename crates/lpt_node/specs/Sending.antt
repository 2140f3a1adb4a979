-- What an end does with the messages that it sends.
use Rattle.std.specs.Prelude.{◌≡◌, ℕ, ◌==◌, ◌||◌, nat_le, nat_lt, if◌then◌else◌, List, [], length, Option, Some, None}
use Rattle.std.specs.FinMap as map
use Rattle.lpt_packet.specs.Names.{Name}
use Rattle.lpt_part.specs.declared.kind.Kind.{Kind}
use Rattle.lpt_part.specs.declared.kind.Kind.TheVariants.{First, Middle, Last}
use Rattle.lpt_part.specs.Parts.{Piece}
use Rattle.lpt_part.specs.Splitting.{part_count}
use Rattle.lpt_ledger.specs.declared.state.State.{State}
use Rattle.lpt_ledger.specs.declared.state.State.TheVariants.{Free, Open, Closed}
use Rattle.lpt_ledger.specs.Marks.{Opened, Shut}
use Rattle.lpt_ledger.specs.States.{state_at}
use Rattle.lpt_events.specs.declared.side.Side.{Side}
use Rattle.lpt_events.specs.declared.side.Side.TheVariants.{Ground, Craft}
use Rattle.lpt_events.specs.declared.config.Config.{Config}
use Rattle.lpt_node.specs.declared.fault.NodeFault.{NodeFault}
use Rattle.lpt_node.specs.declared.fault.NodeFault.TheVariants.{InUse, Short, Long, TooMany, NotOpen, NoSuchPart, Memory}
use Rattle.lpt_events.specs.declared.telemetry.TelemetryKind.{TelemetryKind}
use Rattle.lpt_events.specs.declared.telemetry.TelemetryKind.TheVariants.{FirstPart, MiddlePart, LastPart}
use Rattle.lpt_node.specs.Counting.{counter_of, next_count, next_types}
use Rattle.lpt_events.specs.MadePackets.{nth_part, part_made}
use Rattle.lpt_packet.specs.Sizes.{longest_packet}
use Rattle.lpt_node.specs.Nodes.{Sending, NodeData, direction_from, message_at}

-- why a message of this length isn't taken, under a name of this state, if n are open and so
-- many may be
abbrev pub refusal_open_in : Config → (limit : ℕ) → State → ℕ → ℕ → Option NodeFault
refusal_open_in c limit Open n len = Some InUse
refusal_open_in c limit Closed n len = Some InUse
refusal_open_in c limit Free n len =
    if nat_le len c.part_size then Some Short
    else if nat_lt longest_packet len then Some Long
    else if nat_le limit n then Some TooMany
    else None

-- why a message of this length isn't taken under this name
abbrev pub refusal_open : Config → NodeData → Name → ℕ → Option NodeFault
refusal_open c d name len =
    refusal_open_in c d.outgoing (state_at d.sending.ledger name)
    (map.len d.sending.messages) len

-- a message is taken
abbrev pub opened_in : Sending → Name → List ℕ → Sending
opened_in s name m = record s { ledger = map.insert s.ledger name Opened; messages = map.insert s.messages name m }

-- the end with a message taken
abbrev pub message_opened : NodeData → Name → List ℕ → NodeData
message_opened d name m = record d { sending = opened_in d.sending name m }

-- why part k of a message, or of none, isn't sent
abbrev pub refusal_send_of : Config → ℕ → Option (List ℕ) → Option NodeFault
refusal_send_of c k None = Some NotOpen
refusal_send_of c k (Some m) =
    if (k == 0) || nat_lt (part_count (length m) c.part_size) k then Some NoSuchPart else None

-- why part k of this name's message isn't sent
abbrev pub refusal_send : Config → NodeData → Name → ℕ → Option NodeFault
refusal_send c d name k = refusal_send_of c k (message_at d name)

-- the telemetry that carries a part of this kind
abbrev pub part_telemetry : Kind → TelemetryKind
part_telemetry First = FirstPart
part_telemetry Middle = MiddlePart
part_telemetry Last = LastPart

-- a packet was made
abbrev pub packet_counted : Sending → Sending
packet_counted s = record s { count = next_count s.count }

-- telemetry of a kind was made
abbrev pub counted_kind : Sending → TelemetryKind → Sending
counted_kind s kind = record s { count = next_count s.count; types = next_types s.types kind }

-- the message type counters once a part of this kind was sent: ground makes no telemetry
abbrev pub part_types : Side → List ℕ → Kind → List ℕ
part_types Ground types kind = types
part_types Craft types kind = next_types types (part_telemetry kind)

-- a packet that carries a part of this kind was made
abbrev pub counted_part : Side → Sending → Kind → Sending
counted_part side s kind =
    record s { count = next_count s.count; types = part_types side s.types kind }

-- the packet that carries a part: a telecommand from ground, of this source, or telemetry from the
-- spacecraft, to it
abbrev pub part_packet_at : Side
    → Config
    → (peer count : ℕ)
    → (types : List ℕ)
    → (clock : ℕ)
    → Piece
    → List ℕ
part_packet_at side c peer count types clock q =
    part_made c (direction_from side) peer count (counter_of types (part_telemetry q.kind)) clock q

-- the same, of an end
abbrev pub part_packet : Side → Config → NodeData → (peer : ℕ) → Piece → List ℕ
part_packet side c d peer q = part_packet_at side c peer d.sending.count d.sending.types d.clock q

-- a part is sent: the end after it, and the packet
abbrev pub sent_piece : Side → Config → NodeData → (peer : ℕ) → Piece → NodeData × List ℕ
sent_piece side c d peer q =
    (record d { sending = counted_part side d.sending q.kind }, part_packet side c d peer q)

-- part k of a message is sent; of none nothing is, and the call is refused
abbrev pub sent_of : Side → Config → NodeData → Name → ℕ → Option (List ℕ) → NodeData × List ℕ
sent_of side c d name k None = (d, [])
sent_of side c d name k (Some m) =
    sent_piece side c d name.source (nth_part c.part_size name.id m k)

-- part k of this name's message is sent
abbrev pub part_sent : Side → Config → NodeData → Name → ℕ → NodeData × List ℕ
part_sent side c d name k = sent_of side c d name k (message_at d name)

-- why a transaction of this state isn't finished
abbrev pub refusal_finish_in : State → Option NodeFault
refusal_finish_in Open = None
refusal_finish_in Free = Some NotOpen
refusal_finish_in Closed = Some NotOpen

-- why this name's transaction isn't finished
abbrev pub refusal_finish : NodeData → Name → Option NodeFault
refusal_finish d name = refusal_finish_in (state_at d.sending.ledger name)

-- a transaction is closed if its state is open, and its message let go
abbrev pub closed_by : State → Sending → Name → Sending
closed_by Open s name = record s { ledger = map.insert s.ledger name Shut; messages = map.remove s.messages name }
closed_by Free s name = s
closed_by Closed s name = s

-- a transaction is closed if it is open
abbrev pub closed_in : Sending → Name → Sending
closed_in s name = closed_by (state_at s.ledger name) s name

-- the end with an outgoing transaction closed
abbrev pub sender_closed : NodeData → Name → NodeData
sender_closed d name = record d { sending = closed_in d.sending name }

-- the fault of a call is why it was refused, or out of memory if nothing refuses it
abbrev pub RefusedBy : Option NodeFault → NodeFault → Type 0
RefusedBy (Some g) f = f ≡ g
RefusedBy None f = f ≡ Memory
