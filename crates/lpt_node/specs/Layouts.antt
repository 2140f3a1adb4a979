-- What a parsed packet keeps of what it is: where the body of a part or of an abortion report stands.
use Rattle.std.specs.Prelude.{◌≡◌, ℕ, ◌+◌, ◌≤◌, true, false, List, length, drop}
use Rattle.lpt_packet.specs.Packets.{Fields, fields_at}
use Rattle.lpt_part.specs.Splitting.{IsPartSize}
use Rattle.lpt_part.specs.Parts.{piece}
use Rattle.lpt_events.specs.NamedParts.{part_named}
use Rattle.lpt_events.specs.declared.side.Side.{Side}
use Rattle.lpt_node.specs.declared.arrival.Layout.{Layout}
use Rattle.lpt_node.specs.declared.arrival.Layout.TheVariants as layout
use Rattle.lpt_node.specs.declared.arrival.Arrival.{Arrival as Shown}
use Rattle.lpt_node.specs.declared.arrival.Arrival.TheVariants as shown
use Rattle.lpt_packet.specs.Sizes.{longest_packet}
use Rattle.lpt_events.specs.Arrivals.{Arrival, NotRead, AnIdle, Foreign, ARequest, AReport, NoPart, APart, AnAbort, part_arrival, abort_arrival, packet_arrival, arrival}

-- the body that stands in a packet's data field from a place on
abbrev pub body_from : List ℕ → ℕ → List ℕ
body_from b from = drop from (fields_at b).octets

-- what was found, with the body read
abbrev pub arrival_by : ℕ → List ℕ → Layout → Arrival
arrival_by p b layout.Unreadable = NotRead
arrival_by p b layout.Idle = AnIdle
arrival_by p b layout.Foreign = Foreign
arrival_by p b layout.Request = ARequest b
arrival_by p b (layout.Report service subtype) = AReport service subtype
arrival_by p b (layout.Part kind source from) = part_arrival p source (body_from b from) kind
arrival_by p b (layout.Abort source from) = abort_arrival source (body_from b from)

-- the body that was found lies within the data field, and a request is no longer than a packet
abbrev pub IsWithin : List ℕ → Layout → Type 0
IsWithin b layout.Unreadable = Unit {0}
IsWithin b layout.Idle = Unit {0}
IsWithin b layout.Foreign = Unit {0}
IsWithin b layout.Request = length b ≤ longest_packet
IsWithin b (layout.Report service subtype) = Unit {0}
IsWithin b (layout.Part kind source from) = from + 8 ≤ length b
IsWithin b (layout.Abort source from) = from + 8 ≤ length b

-- this was found in the octets
pub record IsLayout (side : Side) (apid p : ℕ) (b : List ℕ) (f : Layout) : Type 0 where
  pub part_size : IsPartSize p
  pub within : IsWithin b f
  pub is : arrival_by p b f ≡ arrival side apid p b

-- this was found in octets that are a packet with these fields, of the configured APID
pub record IsLayoutIn (side : Side) (fields : Fields) (b : List ℕ) (f : Layout) : Type 0 where
  pub within : IsWithin b f
  pub is : (p : ℕ) → arrival_by p b f ≡ packet_arrival side p b fields

-- what is shown of octets that are this arrival, for this part size
abbrev pub Shows : ℕ → List ℕ → Shown → Arrival → Type 0
Shows p b shown.Unreadable a = a ≡ NotRead
Shows p b shown.Idle a = a ≡ AnIdle
Shows p b shown.Foreign a = a ≡ Foreign
Shows p b shown.Request a = (a ≡ ARequest b) × (length b ≤ longest_packet)
Shows p b (shown.Report service subtype) a = a ≡ AReport service subtype
Shows p b shown.BadPart a = a ≡ NoPart
Shows p b (shown.Part source part) a = (a ≡ APart (part_named source (piece part))) × (part.p ≡ p)
Shows p b (shown.Abort name reason) a = a ≡ AnAbort name reason

-- what is shown is no plain request, and a part is of this size
abbrev pub IsShown : ℕ → Shown → Type 0
IsShown p shown.Unreadable = Unit {0}
IsShown p shown.Idle = Unit {0}
IsShown p shown.Foreign = Unit {0}
IsShown p shown.Request = false ≡ true
IsShown p (shown.Report service subtype) = Unit {0}
IsShown p shown.BadPart = Unit {0}
IsShown p (shown.Part source part) = part.p ≡ p
IsShown p (shown.Abort name reason) = Unit {0}

-- the arrival that is shown, a plain request aside
abbrev pub arrival_shown : Shown → Arrival
arrival_shown shown.Unreadable = NotRead
arrival_shown shown.Idle = AnIdle
arrival_shown shown.Foreign = Foreign
arrival_shown shown.Request = NotRead
arrival_shown (shown.Report service subtype) = AReport service subtype
arrival_shown shown.BadPart = NoPart
arrival_shown (shown.Part source part) = APart (part_named source (piece part))
arrival_shown (shown.Abort name reason) = AnAbort name reason
