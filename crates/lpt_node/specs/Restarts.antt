-- The state of a name at an end, what the end does when a transaction is retired, and when it is
-- restarted.
use Rattle.std.specs.Prelude.{◌≡◌, ℕ, ◌+◌, Bool, false, not, if◌then◌else◌, is_some}
use Rattle.std.specs.FinMap as map
use Rattle.lpt_packet.specs.declared.direction.Direction.{Direction}
use Rattle.lpt_packet.specs.Names.{Name}
use Rattle.lpt_jobs.specs.Jobs.{no_jobs}
use Rattle.lpt_ledger.specs.declared.state.State.{State}
use Rattle.lpt_ledger.specs.declared.state.State.TheVariants.{Open}
use Rattle.lpt_ledger.specs.Marks.{Marks, all_closed}
use Rattle.lpt_ledger.specs.States.{state_at}
use Rattle.lpt_acts.specs.Acts.{Limits}
use Rattle.lpt_events.specs.Lanes.{same_direction}
use Rattle.lpt_events.specs.declared.side.Side.{Side}
use Rattle.lpt_node.specs.Counting.{no_types}
use Rattle.lpt_node.specs.Nodes.{NodeData, Receiving, direction_from, is_open}

-- ---- the state of a name

-- the state of a name at its receiver: open if a reception of it is
abbrev pub received_state : Receiving → Name → State
received_state r name = if is_some (map.get r.entries name) then Open else state_at r.ledger name

-- the state of a name at an end: in the direction in which it sends its sender's, in the other its
-- receiver's
abbrev pub name_state : Side → NodeData → Direction → Name → State
name_state side d way name =
    if same_direction way (direction_from side) then state_at d.sending.ledger name
    else received_state d.receiving name

-- ---- retirement

-- whether an end may free a name: in the direction in which it sends its sender isn't open, in the
-- other it has no open reception
abbrev pub may_retire : Side → NodeData → Direction → Name → Bool
may_retire side d way name =
    if same_direction way (direction_from side) then not (is_open (state_at d.sending.ledger name))
    else not (is_some (map.get d.receiving.entries name))

-- an end has freed a name: in the direction in which it sends its sender's, in the other its
-- receiver's
abbrev pub name_retired : Side → NodeData → Direction → Name → NodeData
name_retired side d way name =
    if same_direction way (direction_from side) then
    record d { sending = record d.sending { ledger = map.remove d.sending.ledger name } }
    else record d { receiving = record d.receiving { ledger = map.remove d.receiving.ledger name } }

-- ---- a restart

-- an end was restarted: it has closed its open senders and dropped its open receptions and its
-- jobs, and counts from 0 again; it knows the names and the clock as before
abbrev pub node_restarted : NodeData → NodeData
node_restarted d = record {
  sending = record {
    ledger = all_closed d.sending.ledger;
    messages = map.empty;
    count = 0;
    types = no_types;
  };
  receiving = record d.receiving { entries = map.empty };
  outgoing = d.outgoing;
  clock = d.clock;
  boot = d.boot + 1;
  jobs = no_jobs;
}

-- no name is open
abbrev pub NoneOpen : Marks → Type 0
NoneOpen m = (name : Name) → is_open (state_at m name) ≡ false

-- the limits of an end
abbrev pub limits_at : NodeData → Limits
limits_at d = record {
  timeout = d.receiving.timeout;
  receptions = d.receiving.limit;
  outgoing = d.outgoing;
}

-- an end within these limits
abbrev pub node_within : Limits → NodeData → NodeData
node_within l d = record d {
  receiving = record d.receiving { limit = l.receptions; timeout = l.timeout };
  outgoing = l.outgoing;
}

-- an end within these limits, with this boot and clock, at which nothing is open, and that knows
-- these names
abbrev pub node_resumed : Limits → (boot clock : ℕ) → (sent received : Marks) → NodeData
node_resumed l boot clock sent received = record {
  sending = record { ledger = sent; messages = map.empty; count = 0; types = no_types };
  receiving = record {
    ledger = received;
    entries = map.empty;
    limit = l.receptions;
    timeout = l.timeout;
  };
  outgoing = l.outgoing;
  clock = clock;
  boot = boot;
  jobs = no_jobs;
}
