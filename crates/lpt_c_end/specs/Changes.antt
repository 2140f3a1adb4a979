-- What a call that isn't refused makes of an end.
use Rattle.std.specs.Prelude.{◌≡◌, ℕ, ◌+◌, List, [], ◌∷◌, ◌++◌, drop, Option, Some, None, option_to_list}
use Rattle.lpt_events.specs.Arrivals.{arrival}
use Rattle.lpt_events.specs.declared.config.Config.{Config}
use Rattle.lpt_events.specs.declared.side.Side.{Side}
use Rattle.lpt_jobs.specs.Jobs.{without_front}
use Rattle.lpt_memory.specs.Meanings.{Sizes}
use Rattle.lpt_packet.specs.Names.{Name}
use Rattle.lpt_node.specs.declared.accepted.Accepted.{Accepted}
use Rattle.lpt_node.specs.declared.expired.Expired.{Expired}
use Rattle.lpt_node.specs.Accepting.{packet_accepted}
use Rattle.lpt_node.specs.Restarts.{name_retired, node_restarted}
use Rattle.lpt_node.specs.Jobs.{Execution, job_claimed, job_committed, job_executed, not_executed}
use Rattle.lpt_node.specs.Nodes.{NodeData, NodeView, new_node}
use Rattle.lpt_node.specs.Requests.{plain_made}
use Rattle.lpt_node.specs.Sending.{message_opened, part_sent, sender_closed}
use Rattle.lpt_node.specs.Times.{clock_ticked, reception_expired, clock_back, given_up}
use Rattle.lpt_c_end.specs.Contents.{memories_of}
use Rattle.lpt_c_end.specs.Words.{direction_from}
use Rattle.lpt_c_end.specs.Kept.{sizes_in}
use Rattle.lpt_c_end.specs.declared.end.End.{End}
use Rattle.lpt_c_end.specs.declared.kept.Kept.{Kept}
use Rattle.lpt_c_end.specs.declared.kept.Kept.TheVariants.{Nowhere, Here, Elsewhere}
use Rattle.lpt_c_end.specs.declared.memories.LptMemory.{LptMemory}

-- ---- what may change

-- what never changes of an end
pub record IsFixed (e new : End) : Type 0 where
  pub side : new.side ≡ e.side
  pub config : new.config ≡ e.config
  pub memories : new.memories ≡ e.memories

-- the node became this, and all else is as it was
pub record Becomes (at : NodeData) (e new : End) : Type 0 where
  pub node : new.node.at ≡ at
  pub released : new.released ≡ e.released
  pub outbox : new.outbox.items ≡ e.outbox.items
  pub fixed : IsFixed e new

-- the node became this, and these packets more are to be sent
pub record Makes (at : NodeData) (packets : List (List ℕ)) (e new : End) : Type 0 where
  pub node : new.node.at ≡ at
  pub outbox : new.outbox.items ≡ e.outbox.items ++ packets
  pub released : new.released ≡ e.released
  pub fixed : IsFixed e new

-- the end is as it was
abbrev pub IsSame : End → End → Type 0
IsSame e = Becomes e.node.at e

-- ---- a new end

-- the end has this node and these memories, nothing was released, and nothing is to be sent
pub record IsMadeOf (n : NodeView) (kept : Kept) (e : End) : Type 0 where
  pub side : e.side ≡ n.side
  pub config : e.config ≡ n.config
  pub node : e.node ≡ n
  pub memories : e.memories ≡ kept
  pub released : e.released ≡ None
  pub outbox : e.outbox.items ≡ []

-- nothing has happened at an end with such memories
abbrev pub IsNewWith : Side → Config → Kept → End → Type 0
IsNewWith s c kept = IsMadeOf (new_node s c) kept

-- the same, with memories that begin with this content
abbrev pub IsNew : Side → Config → List LptMemory → List ℕ → End → Type 0
IsNew s c ms content = IsNewWith s c (memories_of s ms content)

-- ---- receiving

-- what the node does with octets that were delivered to it
abbrev pub delivery : End → List ℕ → NodeData × Accepted
delivery e b =
    packet_accepted e.side e.config e.node.at (arrival e.side e.config.apid e.config.part_size b)

-- the octets were taken: what was released of them is kept until the next are taken, and a report
-- is to be sent
pub record IsDelivered (b : List ℕ) (e new : End) : Type 0 where
  pub node : new.node.at ≡ (delivery e b).0
  pub released : new.released ≡ (delivery e b).1.released
  pub outbox : new.outbox.items ≡ e.outbox.items ++ option_to_list (delivery e b).1.packet
  pub fixed : IsFixed e new

-- what the node does if a reception expires
abbrev pub expiry : End → NodeData × Expired
expiry e = reception_expired e.side e.config e.node.at

-- the reception that is due has expired, and a report of it is to be sent
abbrev pub IsExpired : End → End → Type 0
IsExpired e = Makes (expiry e).0 (option_to_list (expiry e).1.packet) e

-- what the node does if the reception of a name is given up before its time
abbrev pub giving_up : Name → End → NodeData × Expired
giving_up name e = given_up e.side e.config e.node.at name

-- the reception of a name was given up, and a report of it is to be sent
abbrev pub IsGivenUp : Name → End → End → Type 0
IsGivenUp name e =
    Makes (giving_up name e).0 (option_to_list (giving_up name e).1.packet) e

-- ---- sending

-- a message was taken to be sent
abbrev pub IsOpened : Name → List ℕ → End → End → Type 0
IsOpened name message e = Becomes (message_opened e.node.at name message) e

-- what the node does if a part is sent
abbrev pub part_of : Name → (k : ℕ) → End → NodeData × List ℕ
part_of name k e = part_sent e.side e.config e.node.at name k

-- the packet of a part is to be sent
abbrev pub IsPartMade : Name → (k : ℕ) → End → End → Type 0
IsPartMade name k e = Makes (part_of name k e).0 ((part_of name k e).1 ∷ []) e

-- what the node does if a plain request is made
abbrev pub plain_of : (source flags service subtype : ℕ) → List ℕ → End → NodeData × List ℕ
plain_of source flags service subtype body e =
    plain_made e.config e.node.at source flags service subtype body

-- the packet of a plain request is to be sent
abbrev pub IsPlainMade : (source flags service subtype : ℕ) → List ℕ → End → End → Type 0
IsPlainMade source flags service subtype body e =
    let made = plain_of source flags service subtype body e in Makes made.0 (made.1 ∷ []) e

-- a message was finished
abbrev pub IsFinished : Name → End → End → Type 0
IsFinished name e = Becomes (sender_closed e.node.at name) e

-- the first packet that was to be sent was let go
pub record IsLetGo (e new : End) : Type 0 where
  pub node : new.node.at ≡ e.node.at
  pub outbox : new.outbox.items ≡ drop 1 e.outbox.items
  pub released : new.released ≡ e.released
  pub fixed : IsFixed e new

-- ---- the clock, names, and a restart

-- the clock is as many ticks back, and each tick of the past with it
abbrev pub IsRebased : (ticks : ℕ) → End → End → Type 0
IsRebased ticks e = Becomes (clock_back ticks e.node.at) e

-- the clock is one tick on
abbrev pub IsTicked : End → End → Type 0
IsTicked e = Becomes (clock_ticked e.node.at) e

-- the end as many ticks later
abbrev pub ticked_by : (ticks : ℕ) → NodeData → NodeData
ticked_by ticks d = record d { clock = d.clock + ticks }

-- the clock is as many ticks on
abbrev pub IsTickedBy : (ticks : ℕ) → End → End → Type 0
IsTickedBy ticks e = Becomes (ticked_by ticks e.node.at) e

-- a name was freed
abbrev pub IsRetired : (direction : ℕ) → Name → End → End → Type 0
IsRetired direction name e =
    Becomes (name_retired e.side e.node.at (direction_from direction) name) e

-- the end was restarted
abbrev pub IsRestarted : End → End → Type 0
IsRestarted e = Becomes (node_restarted e.node.at) e

-- ---- jobs

-- the oldest job that waits is claimed, and what this message means for memories of these sizes is
-- handed in
abbrev pub read_as : List ℕ → Config → Sizes → NodeData → NodeData
read_as message c sizes d =
    (job_committed (job_claimed d).0 (job_claimed d).1.boot (job_claimed d).1.job (record {
      apid = c.apid;
      sizes = sizes;
      message = message;
    })).0

-- the oldest job that waits is claimed, and what it means for such memories is handed in
abbrev pub read_over : Config → Sizes → NodeData → NodeData
read_over c sizes d = read_as (job_claimed d).1.message c sizes d

-- the same, if there are memories
abbrev pub read_by : Config → Option Sizes → NodeData → NodeData
read_by c None d = d
read_by c (Some sizes) d = read_over c sizes d

-- a message in place of the oldest job's, if there are memories
abbrev pub read_as_by : List ℕ → Config → Option Sizes → NodeData → NodeData
read_as_by message c None d = d
read_as_by message c (Some sizes) d = read_as message c sizes d

-- the oldest job that waited was read
abbrev pub IsRead : End → End → Type 0
IsRead e = Becomes (read_by e.config (sizes_in e.memories) e.node.at) e

-- the oldest job was let go
abbrev pub IsDropped : End → End → Type 0
IsDropped e = Becomes (record e.node.at { jobs = without_front e.node.at.jobs }) e

-- the oldest job is executed, if the end has the memories: the node and its answer, and the
-- memories
abbrev pub execution_by : Config → Kept → NodeData → (NodeData × Execution) × Kept
execution_by c Nowhere d = ((d, not_executed), Nowhere)
execution_by c (Here ms) d = ((job_executed c d ms).0, Here (job_executed c d ms).1)
execution_by c (Elsewhere sizes) d = ((d, not_executed), Elsewhere sizes)

-- the same, of an end
abbrev pub execution_of : End → (NodeData × Execution) × Kept
execution_of e = execution_by e.config e.memories e.node.at

-- the oldest job was executed, and its reports are to be sent
pub record IsExecuted (e new : End) : Type 0 where
  pub node : new.node.at ≡ (execution_of e).0.0
  pub memories : new.memories ≡ (execution_of e).1
  pub outbox : new.outbox.items ≡ (execution_of e).0.1.packets
  pub released : new.released ≡ e.released
  pub side : new.side ≡ e.side
  pub config : new.config ≡ e.config
