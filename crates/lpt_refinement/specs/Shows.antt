-- The state of the ends and the link shows a view: each field is what the view says of it.
use Rattle.std.specs.Prelude.{◌≡◌, ℕ, suc, ◌%◌, ◌<◌, ◌≤◌, nat_lt, Bool, true, false, not, ◌&&◌, if◌then◌else◌, List, [], ◌∷◌, length, map, drop, slice_get, Option, Some, None}
use Rattle.std.specs.List.{filter}
use Rattle.std.specs.FinMap as maps
use Rattle.lpt_packet.specs.Names.{Name}
use Rattle.lpt_ledger.specs.Marks.{Mark, Opened, Shut}
use Rattle.lpt_events.specs.declared.lane.Lane.{Lane}
use Rattle.lpt_events.specs.declared.side.Side.{Side}
use Rattle.lpt_events.specs.declared.side.Side.TheVariants.{Ground, Craft}
use Rattle.lpt_link.specs.declared.packet.LinkPacket.{LinkPacket}
use Rattle.lpt_link.specs.Links.{LinkData, is_held, hand_of}
use Rattle.lpt_events.specs.declared.telemetry.TelemetryKind.{TelemetryKind}
use Rattle.lpt_events.specs.TelemetryKinds.{service_of, subtype_of}
use Rattle.lpt_node.specs.Counting.{counter_of}
use Rattle.lpt_node.specs.Nodes.{Sending, Receiving, NodeData}
use Rattle.lpt_reception.specs.Received.{Parts}
use Rattle.lpt_table.specs.Tables.{TableEntry}
use Rattle.lpt_events.specs.declared.worker.Worker.{Worker}
use Rattle.lpt_memory.specs.Memories.{sizes_of}
use Rattle.lpt_memory.specs.Readings.{Job as Ticket}
use Rattle.lpt_jobs.specs.declared.job.Job.{Job}
use Rattle.lpt_jobs.specs.Jobs.{Jobs}
use Rattle.lpt_jobs.specs.declared.job.Job.TheVariants.{Waiting, Claimed, Committed}
use Rattle.lpt_journal.specs.Journal.{SentPacket}
use Rattle.lpt_journal.specs.Receivers.{has_parts}
use Rattle.lpt_journal.specs.Senders.{Sender, FreeSender, OpenSender, ClosedSender, is_report}
use Rattle.lpt_model.specs.State.{State}
use Rattle.lpt_model.specs.Tickets.{ticket_of}
use Rattle.lpt_refinement.specs.Views.{SendingView, ReceivingView, EndView, LinkView, JobsView, Views}
use Rattle.lpt_events.specs.Counts.{sequence_counts, type_counters}

-- ---- what a field shows

-- a sender's mark in the ledger
abbrev pub mark_of : Sender → Option Mark
mark_of FreeSender = None
mark_of (OpenSender m) = Some Opened
mark_of ClosedSender = Some Shut

-- the message that an open sender has
abbrev pub message_of : Sender → Option (List ℕ)
message_of FreeSender = None
message_of (OpenSender m) = Some m
message_of ClosedSender = None

-- the mark of a reception that has ended
abbrev pub closed_mark : Bool → Option Mark
closed_mark true = Some Shut
closed_mark false = None

-- the open reception of these parts and last tick, if there are any
abbrev pub entry_of : Parts → ℕ → Option TableEntry
entry_of s last = if has_parts s then Some (record { parts = s; last = last }) else None

-- a packet of the link, as it was put
abbrev pub sent_packet : LinkPacket → SentPacket
sent_packet p = record { direction = p.direction; octets = p.octets }

-- ---- the fields

-- each counter is the number of the reports of its kind among the made packets, in 16 bits
pub record ShowsReports (types : List ℕ) (made : List (List ℕ)) : Type 0 where
  pub eleven : length types ≡ 11
  pub counter : (k : TelemetryKind)
      → counter_of types k ≡ length (filter (is_report (service_of k) (subtype_of k)) made) % type_counters

-- the spacecraft's message type counters; ground makes no telemetry
abbrev pub ShowsTypes : Side → List ℕ → List (List ℕ) → Type 0
ShowsTypes Ground types made = Unit {0}
ShowsTypes Craft types made = ShowsReports types made

pub record ShowsSending (side : Side) (x : Sending) (y : SendingView) : Type 0 where
  pub ledger : (name : Name) → maps.get x.ledger name ≡ mark_of (y.senders name)
  pub messages : (name : Name) → maps.get x.messages name ≡ message_of (y.senders name)
  pub count : x.count ≡ length y.made % sequence_counts
  pub types : ShowsTypes side x.types y.made

pub record ShowsReceiving (x : Receiving) (y : ReceivingView) : Type 0 where
  pub ledger : (name : Name) → maps.get x.ledger name ≡ closed_mark (y.closed name)
  pub entries : (name : Name) → maps.get x.entries name ≡ entry_of (y.parts name) (y.last name)
  pub limit : x.limit ≡ y.limit
  pub timeout : x.timeout ≡ y.timeout

pub record ShowsEnd (side : Side) (d : NodeData) (y : EndView) : Type 0 where
  pub sending : ShowsSending side d.sending y.sending
  pub receiving : ShowsReceiving d.receiving y.receiving
  pub outgoing : d.outgoing ≡ y.outgoing
  pub clock : d.clock ≡ y.clock
  pub boot : d.boot ≡ y.boot

-- a packet is held if it was put and isn't lost; none is lost before it is put
pub record ShowsLink (x : LinkData) (y : LinkView) : Type 0 where
  pub packets : map sent_packet x.packets ≡ y.sent
  pub tags : map (λ p. p.tag) x.packets ≡ y.tags
  pub held : (n : ℕ) → is_held x n ≡ (nat_lt n (length y.sent) && not (y.lost n))
  pub lost_before : (n : ℕ) → length y.sent ≤ n → y.lost n ≡ false
  pub hands : (l : Lane) → hand_of x l ≡ y.hands l

-- the job of this number and message: the queue has the message until the job is claimed, and the
-- reading once one was committed
abbrev pub job_shown : JobsView → ℕ → List ℕ → Job
job_shown v n m =
    if nat_lt n v.claimed then
    (if v.committed n then Committed (record { apid = v.apid; sizes = v.sizes; message = m })
    else Claimed)
    else Waiting m

-- the jobs of these messages, the first of which has the number n
abbrev pub jobs_from : (ℕ → List ℕ → Job) → ℕ → List (List ℕ) → List Job
jobs_from job n [] = []
jobs_from job n (m ∷ ms) = job n m ∷ jobs_from job (suc n) ms

-- the queue has the jobs that aren't executed
pub record ShowsJobs (x : Jobs) (v : JobsView) : Type 0 where
  pub first : x.first ≡ v.applied
  pub jobs : x.jobs ≡ jobs_from (job_shown v) v.applied (drop v.applied v.messages)

pub record Shows (s : State) (v : Views) : Type 0 where
  pub ground : ShowsEnd Ground s.on_ground v.ground
  pub craft : ShowsEnd Craft s.on_craft v.craft
  pub link : ShowsLink s.link v.link
  pub jobs : ShowsJobs s.on_craft.jobs v.jobs
  pub tickets : (w : Worker) → ticket_of s.tickets w ≡ v.tickets w
  pub memories : s.memories ≡ v.memories
  pub sizes : sizes_of v.memories ≡ v.jobs.sizes
  pub opened : s.opened ≡ v.opened
  pub released : s.released ≡ v.released

-- ---- what holds of the jobs in every legal journal

-- the job of this number was claimed, and neither committed nor executed
pub record IsOut (v : JobsView) (n : ℕ) : Type 0 where
  pub not_executed : v.applied ≤ n
  pub is_claimed : n < v.claimed
  pub not_committed : v.committed n ≡ false

-- a worker's job of this boot is out, and has its message
pub record IsHeldJob (v : JobsView) (t : Ticket) : Type 0 where
  pub out : IsOut v t.job
  pub message : slice_get v.messages t.job ≡ Some t.message

-- jobs are claimed before they are executed or committed
pub record JobsFit (v : JobsView) (tickets : Worker → Option Ticket) : Type 0 where
  pub executed : v.applied ≤ v.claimed
  pub claimed : v.claimed ≤ length v.messages
  pub committed : (n : ℕ) → v.committed n ≡ true → n < v.claimed
  pub held : (w : Worker) (t : Ticket) → tickets w ≡ Some t → t.boot ≡ v.boot → IsHeldJob v t
