-- The spacecraft's end as a stream goes on: what comes, and the names that are freed.
use Rattle.std.specs.Prelude.{ℕ, zero, suc, Bool, true, false, ◌+◌, ◌==◌, nat_le, if◌then◌else◌, List, [], ◌∷◌, ◌++◌, length, Option, Some, None}
use Rattle.lpt_events.specs.declared.config.Config.{Config}
use Rattle.lpt_events.specs.declared.side.Side.TheVariants.{Craft}
use Rattle.lpt_ledger.specs.declared.state.State.{State}
use Rattle.lpt_ledger.specs.declared.state.State.TheVariants.{Free, Open, Closed}
use Rattle.lpt_node.specs.Nodes.{NodeData}
use Rattle.lpt_node.specs.Restarts.{name_state, name_retired}
use Rattle.lpt_packet.specs.Names.{Name}
use Rattle.lpt_packet.specs.declared.direction.Direction.{Direction}
use Rattle.lpt_stream.specs.Pieces.{up_to_limit}
use Rattle.lpt_spacecraft.specs.Serving.{Onboard, beaten, packet_taken}
use Rattle.lpt_spacecraft.specs.Stretches.{Stretch, Framed, Passed}
use Rattle.lpt_spacecraft.specs.Telling.{all_noted, name_used, given_up, taken_in, took}
use Rattle.lpt_spacecraft.specs.declared.pace.Use.{Use}
use Rattle.lpt_spacecraft.specs.declared.told.Told.{Told}
use Rattle.lpt_spacecraft.specs.declared.told.Told.TheVariants.{Freed, Skipped}

-- the end, after how many ticks a name that was used is free again, or never at 0, and the names
-- that were used and aren't free yet, the oldest use first; if none is freed none is kept
pub record Flight : Type 0 where
  pub end : Onboard
  pub reuse : ℕ
  pub uses : List Use

-- an end at which no name waits to be free
abbrev pub new_flight : (reuse : ℕ) → Onboard → Flight
new_flight reuse s = record { end = s; reuse = reuse; uses = [] }

-- what comes to the spacecraft: a packet, a tick of its clock, that names are freed, and so many
-- octets at a place that are no packet
pub data Input : Type 0 where
  Came : (octets : List ℕ) → Input
  Ticked : Input
  Cleared : Input
  Astray : (place len : ℕ) → Input

-- what came of it: the end, the packets that it made, in their order, and what is told
pub record Made : Type 0 where
  pub flight : Flight
  pub packets : List (List ℕ)
  pub told : List Told

-- ---- names that are used

-- a name was used at this clock
abbrev pub use_of : (reuse clock : ℕ) → Option (Direction × Name) → List Use
use_of reuse clock None = []
use_of reuse clock (Some x) =
    if reuse == 0 then [] else record { direction = x.0; name = x.1; since = clock } ∷ []

-- the names that were used, of what has happened at this clock
abbrev pub uses_of : (reuse clock : ℕ) → List Told → List Use
uses_of reuse clock [] = []
uses_of reuse clock (t ∷ ts) = use_of reuse clock (name_used t) ++ uses_of reuse clock ts

-- the end came to that and made that, and this has happened
abbrev pub noting : Flight → Onboard × List (List ℕ) → List Told → Made
noting f x ts = record {
  flight = record f { end = x.0; uses = f.uses ++ uses_of f.reuse x.0.node.clock ts };
  packets = x.1;
  told = all_noted x.0.node ts;
}

-- ---- names that are freed

-- the state of a name that was used
abbrev pub state_of : NodeData → Use → State
state_of d u = name_state Craft d u.direction u.name

-- whether a name's transaction has ended
abbrev pub is_closed : State → Bool
is_closed Closed = true
is_closed Free = false
is_closed Open = false

-- a name of this state is freed, if it is closed
abbrev pub freed_as : State → NodeData → Direction → Name → NodeData
freed_as Closed d way name = name_retired Craft d way name
freed_as Free d way name = d
freed_as Open d way name = d

-- a name that was used is freed
abbrev pub name_freed : NodeData → Use → NodeData
name_freed d u = freed_as (state_of d u) d u.direction u.name

-- and that is told
abbrev pub told_freed : State → Use → List Told
told_freed s u = if is_closed s then Freed u.direction u.name ∷ [] else []

-- whether a name was used so many ticks before this clock
abbrev pub is_due : (reuse clock : ℕ) → Use → Bool
is_due reuse clock u = nat_le (u.since + reuse) clock

-- the name that was used first, if it is due
abbrev pub due_now : (reuse clock : ℕ) → List Use → Option Use
due_now reuse clock [] = None
due_now reuse clock (u ∷ us) = if is_due reuse clock u then Some u else None

-- more was told before
abbrev pub told_first : List Told → NodeData × List Use × List Told → NodeData × List Use × List
    Told
told_first ts x = (x.0, x.1, ts ++ x.2)

-- the names in front that were used so many ticks ago are freed: the node after it, the names that
-- are left, and what is told
abbrev pub names_cleared : (reuse : ℕ) → NodeData → List Use → NodeData × List Use × List Told
names_cleared reuse d [] = (d, [], [])
names_cleared reuse d (u ∷ us) =
    if is_due reuse d.clock u
    then told_first (told_freed (state_of d u) u) (names_cleared reuse (name_freed d u) us)
    else (d, u ∷ us, [])

-- the end came to that
abbrev pub clearing : Flight → NodeData × List Use × List Told → Made
clearing f x = record {
  flight = record f { end = record f.end { node = x.0 }; uses = x.1 };
  packets = [];
  told = x.2;
}

-- ---- what comes

-- what the end makes of it
abbrev pub step : Config → Flight → Input → Made
step c f (Came b) = noting f (packet_taken c f.end b) (took (taken_in c f.end b))
step c f Ticked = noting f (beaten c f.end) (given_up c f.end)
step c f Cleared = clearing f (names_cleared f.reuse f.end.node f.uses)
step c f (Astray place len) =
    record { flight = f; packets = []; told = Skipped place len ∷ [] }

-- more was made before
abbrev pub behind_made : Made → Made → Made
behind_made x y = record {
  flight = y.flight;
  packets = x.packets ++ y.packets;
  told = x.told ++ y.told;
}

-- what more makes of an end, behind what was made
abbrev pub onward : (Flight → Made) → Made → Made
onward f x = behind_made x (f x.flight)

-- the end after all that came, the packets that it made, and what is told
abbrev pub inputs_served : Config → Flight → List Input → Made
inputs_served c f [] = record { flight = f; packets = []; told = [] }
inputs_served c f (x ∷ xs) = onward (λ g. inputs_served c g xs) (step c f x)

-- ---- ticks by packets

-- a tick, and names freed, if so many packets came since the last
abbrev pub tick_at : (every since : ℕ) → List Input
tick_at every since = if since == every then Ticked ∷ Cleared ∷ [] else []

-- how many packets came since the last tick, with one more
abbrev pub counted_on : (every since : ℕ) → ℕ
counted_on every since = if since + 1 == every then 0 else since + 1

-- a packet comes, and a tick behind it, if that many came
abbrev pub came_with : (every since : ℕ) → List ℕ → List Input
came_with every since b = Came b ∷ tick_at every (since + 1)

-- ---- ticks by a clock

-- so many ticks, with names freed behind each
abbrev pub clock_ticks : ℕ → List Input
clock_ticks zero = []
clock_ticks (suc n) = clock_ticks n ++ (Ticked ∷ Cleared ∷ [])

-- ---- a stream

-- what is found in a stream: a packet, before which so many ticks are due by the clock, and octets
-- that are passed over
pub data FlightEvent : Type 0 where
  Packet : (due : ℕ) → (octets : List ℕ) → FlightEvent
  Noise : (octets : List ℕ) → FlightEvent

-- as it was cut
abbrev pub stretch_of : FlightEvent → Stretch
stretch_of (Packet due b) = Framed b
stretch_of (Noise b) = Passed b

abbrev pub stretches_of : List FlightEvent → List Stretch
stretches_of [] = []
stretches_of (e ∷ es) = stretch_of e ∷ stretches_of es

-- how many ticks are due before packets, in front of those before others
abbrev pub due_before : FlightEvent → List ℕ → List ℕ
due_before (Packet due b) ns = due ∷ ns
due_before (Noise b) ns = ns

-- how many are due before each packet
abbrev pub dues_of : List FlightEvent → List ℕ
dues_of [] = []
dues_of (e ∷ es) = due_before e (dues_of es)

-- how many octets it has
abbrev pub size_of : FlightEvent → ℕ
size_of (Packet due b) = length b
size_of (Noise b) = length b

-- what comes with it at a place
abbrev pub inputs_by : (every since place : ℕ) → FlightEvent → List Input
inputs_by every since place (Packet due b) = clock_ticks due ++ came_with every since b
inputs_by every since place (Noise b) = Astray (up_to_limit place) (length b) ∷ []

-- how many packets came since the last tick by packets, with it
abbrev pub since_by : (every since : ℕ) → FlightEvent → ℕ
since_by every since (Packet due b) = counted_on every since
since_by every since (Noise b) = since

-- what comes with all of them, from a place on
abbrev pub inputs_of : (every since place : ℕ) → List FlightEvent → List Input
inputs_of every since place [] = []
inputs_of every since place (e ∷ es) =
    inputs_by every since place e
    ++ inputs_of every (since_by every since e) (place + size_of e) es
