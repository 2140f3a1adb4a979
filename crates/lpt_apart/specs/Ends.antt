-- Two ends apart: what each of them has, what happened, and what each call of one does.
--
-- A step is a call of one node, which doesn't refuse it, done where its packets and its answer go.
-- As a step a retirement is of both; as a move it is of the sender, so that no call is of both.
use Rattle.std.specs.Prelude.{ℕ, Bool, not, ◌&&◌, List, [], ◌∷◌, Option, Some, false, None, ◌||◌}
use Rattle.std.specs.List.{filter}
use Rattle.std.specs.Option.{option_eq}
use Rattle.lpt_packet.specs.declared.direction.Direction.{Direction}
use Rattle.lpt_packet.specs.Names.{Name, same_name}
use Rattle.lpt_memory.specs.Memories.{Contents, sizes_of}
use Rattle.lpt_events.specs.declared.config.Config.{Config}
use Rattle.lpt_events.specs.declared.side.Side.{Side}
use Rattle.lpt_events.specs.declared.side.Side.TheVariants.{Ground, Craft}
use Rattle.lpt_events.specs.Lanes.{same_direction}
use Rattle.lpt_node.specs.Nodes.{NodeData, no_data}
use Rattle.lpt_model.specs.Tickets.{Tickets, no_tickets, ticket_of, with_ticket}
use Rattle.lpt_acts.specs.Acts.{Leaving, Setting}
use Rattle.lpt_events.specs.declared.outcome.Outcome.{Outcome}
use Rattle.lpt_events.specs.declared.outcome.Outcome.TheVariants.{Broken}
use Rattle.lpt_packet.specs.declared.direction.Direction.TheVariants.{Up, Down}
use Rattle.lpt_memory.specs.Readings.{Job}
use Rattle.lpt_events.specs.Arrivals.{arrival_in}
use Rattle.lpt_events.specs.Sides.{sender_side, receiver_side, direction_to}
use Rattle.lpt_events.specs.declared.worker.Worker.{Worker}
use Rattle.lpt_node.specs.declared.accepted.Accepted.{Accepted}
use Rattle.lpt_node.specs.declared.expired.Expired.{Expired}
use Rattle.lpt_node.specs.Accepting.{packet_accepted}
use Rattle.lpt_node.specs.Restarts.{name_retired, node_restarted}
use Rattle.lpt_node.specs.Jobs.{Execution, job_claimed, job_committed}
use Rattle.lpt_node.specs.Requests.{plain_made}
use Rattle.lpt_node.specs.Sending.{message_opened, part_sent, sender_closed}
use Rattle.lpt_node.specs.Times.{turned_so, which_ends, expired_of}
use Rattle.lpt_model.specs.State.{as_list, released_of, job_left}

-- ---- what happened

-- A message was opened; ground asked for something by a plain request, whose packet has these
-- octets; a message was released, of a transaction, or of none if it was a plain request; a
-- reception expired or was broken off; the oldest request left the spacecraft's queue, executed,
-- refused or dropped; a name was retired; a node was restarted.
pub data Fact : Type 0 where
  Opened : Direction → Name → (message : List ℕ) → Fact
  Asked : (octets : List ℕ) → Fact
  Released : Option (Direction × Name) → (message : List ℕ) → Fact
  Aborted : Direction → Name → Fact
  Left : Leaving → Fact
  Retired : Direction → Name → Fact
  Restarted : Side → Fact

-- what happened, the newest first
abbrev pub Log : Type 0
Log = List Fact

-- the log with the reception that a delivery with this outcome has broken off, if it has
abbrev pub with_abortion : Direction → Outcome → Log → Log
with_abortion d (Broken name reason) log = Aborted d name ∷ log
with_abortion d _ log = log

-- whether two transactions are the same
abbrev pub is_same : Direction → Name → Direction → Name → Bool
is_same e i d name = same_direction e d && same_name i name

-- ---- two ends

-- what an end put out: where it goes, the transaction of which it is a part, and its octets
pub record PutOut : Type 0 where
  pub direction : Direction
  pub part_of : Option Name
  pub octets : List ℕ

-- Each end as its node has it, the jobs that the spacecraft's workers have, and its memories; what
-- was put out and may be handed over still, any number of times and in any order; and the log.
pub record Ends : Type 0 where
  pub on_ground : NodeData
  pub on_craft : NodeData
  pub tickets : Tickets
  pub memories : Contents
  pub on_the_way : List PutOut
  pub log : Log

-- two new ends of a configuration, and these are the memories' first contents
abbrev pub no_ends : Config → Contents → Ends
no_ends c first = record {
  on_ground = no_data c;
  on_craft = no_data c;
  tickets = no_tickets;
  memories = first;
  on_the_way = [];
  log = [];
}

-- the node of a side
abbrev pub node_at : Ends → Side → NodeData
node_at e Ground = e.on_ground
node_at e Craft = e.on_craft

-- the ends with this node
abbrev pub with_node : Ends → Side → NodeData → Ends
with_node e Ground d = record e { on_ground = d }
with_node e Craft d = record e { on_craft = d }

-- what may be handed over once packets of these octets were put out besides
abbrev pub put_out : List PutOut → Direction → Option Name → List (List ℕ) → List PutOut
put_out ps d tag [] = ps
put_out ps d tag (b ∷ bs) =
    put_out (record { direction = d; part_of = tag; octets = b } ∷ ps) d tag bs

-- whether a packet is a part of this transaction
abbrev pub is_part : Direction → Name → PutOut → Bool
is_part d name p = same_direction p.direction d && option_eq same_name p.part_of (Some name)

-- what may be handed over once this transaction's parts may not
abbrev pub without : Direction → Name → List PutOut → List PutOut
without d name ps = filter (λ p. not (is_part d name p)) ps

-- ---- steps

-- The node that sends in a direction takes a message, puts a part out, or lets a message go; ground
-- puts a plain request out; octets are handed to the node that receives in a direction; the node of
-- a side sets its clock on, or back, or has other limits from then on, or gives the reception up
-- that is due, or the open one of a name before its time; a worker of the spacecraft claims a
-- request, or hands its reading in; the spacecraft executes its oldest request, refuses or drops
-- it; both nodes free a name; the node of a side is restarted.
--
-- Assumed: Memories, names and clocks survive a restart: what a call changes of them is saved,
-- whole or not at all, before anything that follows from it is sent or handed on; the promise
-- is about the calls that no reset undid.
pub data Step : Type 0 where
  Open : Direction → Name → (message : List ℕ) → Step
  Send : Direction → Name → (k : ℕ) → Step
  Plain : (source flags service subtype : ℕ) → (body : List ℕ) → Step
  Finish : Direction → Name → Step
  Accept : Direction → (octets : List ℕ) → Step
  Tick : Side → Setting → Step
  Expire : Side → Option Name → Step
  Claim : Worker → Step
  Commit : Worker → Step
  Apply : Leaving → Step
  Retire : Direction → Name → Step
  Restart : Side → Step

-- a part's packet is put out
abbrev pub sent_on : Ends → Direction → Name → NodeData × List ℕ → Ends
sent_on e d name x =
    record (with_node e (sender_side d) x.0) {
      on_the_way = put_out e.on_the_way d (Some name) (x.1 ∷ []);
    }

-- a plain request's packet is put out
abbrev pub requested_on : Ends → NodeData × List ℕ → Ends
requested_on e x =
    record e {
      on_ground = x.0;
      on_the_way = put_out e.on_the_way Up None (x.1 ∷ []);
      log = Asked x.1 ∷ e.log;
    }

-- the log with what was released, if something was
abbrev pub with_release : Log → Option (Direction × Name) → Option (List ℕ) → Log
with_release log of None = log
with_release log of (Some m) = Released of m ∷ log

-- a node has taken what was handed to it, and its report is put out, if it made one
abbrev pub accepted_on : Ends → Direction → NodeData × Accepted → Ends
accepted_on e d x =
    record (with_node e (receiver_side d) x.0) {
      on_the_way = put_out e.on_the_way Down None (as_list x.1.packet);
      log =
          with_abortion d x.1.outcome
          (with_release e.log (released_of d x.1.outcome) x.1.released);
    }

-- a node has given a reception up, and its report is put out, if it made one
abbrev pub expired_on : Ends → Side → NodeData × Expired → Ends
expired_on e side x =
    record (with_node e side x.0) {
      on_the_way = put_out e.on_the_way Down None (as_list x.1.packet);
      log = Aborted (direction_to side) x.1.name ∷ e.log;
    }

-- a worker has a job
abbrev pub claimed_on : Ends → Worker → NodeData × Job → Ends
claimed_on e w x =
    record e { on_craft = x.0; tickets = with_ticket e.tickets w (Some x.1) }

-- a worker hands in what the message of its job means for the memories; it has a job, else it
-- doesn't
abbrev pub committed_on : Config → Ends → Worker → Option Job → Ends
committed_on c e w None = e
committed_on c e w (Some t) =
    record e {
      on_craft = (job_committed e.on_craft t.boot t.job (record {
        apid = c.apid;
        sizes = sizes_of e.memories;
        message = t.message;
      })).0;
      tickets = with_ticket e.tickets w None;
    }

-- the log with the opening of a report of data, if one was opened
abbrev pub with_report : Log → Option (Name × List ℕ) → Log
with_report log None = log
with_report log (Some x) = Opened Down x.0 x.1 ∷ log

-- a request has left so, and its reports are put out
abbrev pub left_on : Leaving → Ends → (NodeData × Execution) × Contents → Ends
left_on how e x =
    record e {
      on_craft = x.0.0;
      memories = x.1;
      on_the_way = put_out e.on_the_way Down None x.0.1.packets;
      log = Left how ∷ with_report e.log x.0.1.opened;
    }

-- both nodes have freed a name, and no part of it that was put out before may be handed over any
-- more
abbrev pub retired_on : Ends → Direction → Name → Ends
retired_on e d name =
    record e {
      on_ground = name_retired Ground e.on_ground d name;
      on_craft = name_retired Craft e.on_craft d name;
      on_the_way = without d name e.on_the_way;
      log = Retired d name ∷ e.log;
    }

-- what a step makes of two ends
abbrev pub after : Config → Ends → Step → Ends
after c e (Open d name m) =
    record (with_node e (sender_side d) (message_opened (node_at e (sender_side d)) name m)) {
      log = Opened d name m ∷ e.log;
    }
after c e (Send d name k) =
    sent_on e d name (part_sent (sender_side d) c (node_at e (sender_side d)) name k)
after c e (Plain source flags service subtype body) =
    requested_on e (plain_made c e.on_ground source flags service subtype body)
after c e (Finish d name) =
    with_node e (sender_side d) (sender_closed (node_at e (sender_side d)) name)
after c e (Accept d b) =
    accepted_on e d
    (packet_accepted (receiver_side d) c (node_at e (receiver_side d)) (arrival_in c d b))
after c e (Tick side turn) = with_node e side (turned_so turn (node_at e side))
after c e (Expire side which) =
    expired_on e side
    (expired_of side c (node_at e side) (which_ends c (node_at e side) which))
after c e (Claim w) = claimed_on e w (job_claimed e.on_craft)
after c e (Commit w) = committed_on c e w (ticket_of e.tickets w)
after c e (Apply how) = left_on how e (job_left how c e.on_craft e.memories)
after c e (Retire d name) = retired_on e d name
after c e (Restart side) =
    record (with_node e side (node_restarted (node_at e side))) {
      log = Restarted side ∷ e.log;
    }

-- ---- moves

-- two ends, and the names that their receivers have freed and their senders haven't
pub record Pair : Type 0 where
  pub ends : Ends
  pub freed : Direction → Name → Bool

-- two new ends
abbrev pub no_pair : Config → Contents → Pair
no_pair c first = record { ends = no_ends c first; freed = λ d name. false }

-- a step, of which a retirement is the sender's alone; or the receiver of a direction frees a name
pub data Move : Type 0 where
  Do : Step → Move
  Free : Direction → Name → Move

-- the receiver has freed a name; no part of it that was put out before may be handed over any more
abbrev pub freed_by : Pair → Direction → Name → Pair
freed_by p d name = record {
  ends =
      record (with_node p.ends (receiver_side d)
      (name_retired (receiver_side d) (node_at p.ends (receiver_side d)) d name)) {
        on_the_way = without d name p.ends.on_the_way;
      };
  freed = λ e i. is_same d name e i || p.freed e i;
}

-- the sender has freed a name too
abbrev pub retired_by : Pair → Direction → Name → Pair
retired_by p d name = record {
  ends =
      record (with_node p.ends (sender_side d)
      (name_retired (sender_side d) (node_at p.ends (sender_side d)) d name)) {
        on_the_way = without d name p.ends.on_the_way;
        log = Retired d name ∷ p.ends.log;
      };
  freed = λ e i. not (is_same d name e i) && p.freed e i;
}

-- what a move makes of two ends
abbrev pub pair_after : Config → Pair → Move → Pair
pair_after c p (Do (Retire d name)) = retired_by p d name
pair_after c p (Do x) = record p { ends = after c p.ends x }
pair_after c p (Free d name) = freed_by p d name

-- two ends after these moves, the newest of which stands first
abbrev pub after_all : Config → Pair → List Move → Pair
after_all c p [] = p
after_all c p (x ∷ xs) = pair_after c (after_all c p xs) x
