-- One end of the link as plain data.
use Rattle.std.specs.Prelude.{ℕ, ◌<◌, ◌≤◌, Bool, true, false, List, Option}
use Rattle.std.specs.FinMap as map
use Rattle.lpt_packet.specs.declared.direction.Direction.{Direction}
use Rattle.lpt_packet.specs.declared.direction.Direction.TheVariants.{Up, Down}
use Rattle.lpt_packet.specs.Names.{Name, name_cmp}
use Rattle.lpt_ledger.specs.declared.state.State.{State}
use Rattle.lpt_ledger.specs.declared.state.State.TheVariants.{Free, Open, Closed}
use Rattle.lpt_ledger.specs.Marks.{Marks}
use Rattle.lpt_table.specs.Tables.{Entries}
use Rattle.lpt_events.specs.declared.side.Side.{Side}
use Rattle.lpt_events.specs.declared.side.Side.TheVariants.{Ground, Craft}
use Rattle.lpt_events.specs.declared.config.Config.{Config}
use Rattle.lpt_node.specs.Counting.{no_types}
use Rattle.lpt_packet.specs.Sizes.{longest_packet}
use Rattle.lpt_jobs.specs.Jobs.{Jobs, no_jobs}

-- the messages of the open outgoing transactions, by their names
abbrev pub Messages : Type 0
Messages = map.FinMap name_cmp (List ℕ)

-- what an end keeps to send: the state of each name, the open messages, the packet sequence count
-- and the message type counters
pub record Sending : Type 0 where
  pub ledger : Marks
  pub messages : Messages
  pub count : ℕ
  pub types : List ℕ

-- what an end keeps to receive: the state of each name, the open receptions, how many may be open,
-- and the timeout in ticks
pub record Receiving : Type 0 where
  pub ledger : Marks
  pub entries : Entries
  pub limit : ℕ
  pub timeout : ℕ

-- what changes at one end; so many messages may be open to be sent; the clock is in ticks; the jobs
-- are the requests that were released in this boot and not executed, and ground has none
pub record NodeData : Type 0 where
  pub sending : Sending
  pub receiving : Receiving
  pub outgoing : ℕ
  pub clock : ℕ
  pub boot : ℕ
  pub jobs : Jobs

-- one end: which it is, its configuration, and what changes
pub record NodeView : Type 0 where
  pub side : Side
  pub config : Config
  pub at : NodeData

-- whether a side is the spacecraft
abbrev pub is_craft : Side → Bool
is_craft Ground = false
is_craft Craft = true

-- the direction in which a side sends
abbrev pub direction_from : Side → Direction
direction_from Ground = Up
direction_from Craft = Down

-- lengths that a message may have if a part has p octets
pub record MessageFits (p len : ℕ) : Type 0 where
  pub least : p < len
  pub greatest : len ≤ longest_packet

-- whether a transaction is open
abbrev pub is_open : State → Bool
is_open Free = false
is_open Open = true
is_open Closed = false

-- the message of an open outgoing transaction
abbrev pub message_at : NodeData → Name → Option (List ℕ)
message_at d name = map.get d.sending.messages name

-- an end at which nothing has happened
abbrev pub no_data : Config → NodeData
no_data c = record {
  sending = record { ledger = map.empty; messages = map.empty; count = 0; types = no_types };
  receiving = record {
    ledger = map.empty;
    entries = map.empty;
    limit = c.receptions;
    timeout = c.timeout;
  };
  outgoing = c.outgoing;
  clock = c.clock;
  boot = 0;
  jobs = no_jobs;
}

-- a new end
abbrev pub new_node : Side → Config → NodeView
new_node side c = record { side = side; config = c; at = no_data c }
