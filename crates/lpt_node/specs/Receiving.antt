-- What an end does with a part that is delivered to it.
use Rattle.std.specs.Prelude.{ℕ, List, [], length, Option, Some, None}
use Rattle.lpt_packet.specs.Names.{Name}
use Rattle.lpt_pus.specs.Telemetry.{Telemetry}
use Rattle.lpt_events.specs.NamedParts.{NamedPart}
use Rattle.lpt_events.specs.declared.side.Side.{Side}
use Rattle.lpt_events.specs.declared.side.Side.TheVariants.{Ground, Craft}
use Rattle.lpt_events.specs.declared.config.Config.{Config}
use Rattle.lpt_events.specs.declared.outcome.Outcome.{Outcome}
use Rattle.lpt_events.specs.declared.outcome.Outcome.TheVariants as outcome
use Rattle.lpt_events.specs.declared.outcome.Why.{Why}
use Rattle.lpt_events.specs.declared.outcome.Why.TheVariants as why
use Rattle.lpt_node.specs.declared.accepted.Accepted.{Accepted}
use Rattle.lpt_node.specs.declared.receipt.Receipt.{Receipt}
use Rattle.lpt_node.specs.declared.receipt.Receipt.TheVariants as receipt
use Rattle.lpt_events.specs.declared.telemetry.TelemetryKind.TheVariants.{Abort}
use Rattle.lpt_node.specs.Counting.{counter_of}
use Rattle.lpt_events.specs.MadePackets.{telemetry_made}
use Rattle.lpt_jobs.specs.Jobs.{Jobs, after_push}
use Rattle.lpt_node.specs.Nodes.{Receiving, NodeData}
use Rattle.lpt_node.specs.Receivers.{ReceiverState, part_received}
use Rattle.lpt_node.specs.Sending.{counted_kind}

-- what receives at an end, within its own limits
abbrev pub receiver_of : Config → Receiving → ReceiverState
receiver_of c r = record {
  limit = r.limit;
  timeout = r.timeout;
  p = c.part_size;
  mode = c.mode;
  ledger = r.ledger;
  entries = r.entries;
}

-- the end with this receiver
abbrev pub with_receiver : NodeData → ReceiverState → NodeData
with_receiver d r =
    record d { receiving = record d.receiving { ledger = r.ledger; entries = r.entries } }

-- an outcome alone
abbrev pub outcome_noted : Outcome → Accepted
outcome_noted o = record { outcome = o; packet = None; released = None }

-- a plain request is released
abbrev pub plain_released : List ℕ → Accepted
plain_released b =
    record { outcome = outcome.PlainReleased (length b); packet = None; released = Some b }

-- nothing was made of a packet
abbrev pub packet_ignored : Why → Accepted
packet_ignored w = outcome_noted (outcome.Ignored w)

-- the end once the report of an abortion was made, or none
abbrev pub with_report : NodeData → Option (List ℕ) → NodeData
with_report d None = d
with_report d (Some o) = record d { sending = counted_kind d.sending Abort }

-- the jobs once a message is released: at the spacecraft it becomes one, on ground it does not
abbrev pub jobs_with : Side → Jobs → List ℕ → Jobs
jobs_with Ground q m = q
jobs_with Craft q m = after_push q m

-- the end once a message is released
abbrev pub with_job : Side → NodeData → List ℕ → NodeData
with_job side d m = record d { jobs = jobs_with side d.jobs m }

-- the jobs, by what a receiver made of a part
abbrev pub jobs_after : Side → Jobs → Receipt → Jobs
jobs_after side q receipt.Closed = q
jobs_after side q receipt.Kept = q
jobs_after side q receipt.Again = q
jobs_after side q receipt.NoRoom = q
jobs_after side q (receipt.Whole m) = jobs_with side q m
jobs_after side q (receipt.Conflict reason packet) = q

-- the end and its answer, by what its receiver made of a part
abbrev pub after_receipt : Side → NodeData → Name → ℕ → Receipt → NodeData × Accepted
after_receipt side d name number receipt.Closed = (d, packet_ignored why.Closed)
after_receipt side d name number receipt.Kept = (d, outcome_noted (outcome.Kept name number))
after_receipt side d name number receipt.Again = (d, outcome_noted (outcome.Again name number))
after_receipt side d name number receipt.NoRoom = (d, packet_ignored why.NoRoom)
after_receipt side d name number (receipt.Whole m) = (
  with_job side d m,
  record { outcome = outcome.Released name (length m); packet = None; released = Some m },
)
after_receipt side d name number (receipt.Conflict reason packet) =
    (with_report d packet, record { outcome = outcome.Broken name reason; packet = packet; released = None })

-- the same, with the receiver after it
abbrev pub after_received : Side → NodeData → NamedPart → ReceiverState × Receipt → NodeData × Accepted
after_received side d q x = after_receipt side (with_receiver d x.0) q.name q.number x.1

-- the head of the next report of an abortion to this destination, by the counts and the clock: the
-- spacecraft makes it, and ground makes none
abbrev pub abort_head_at : Side
    → Config
    → (peer count : ℕ)
    → (types : List ℕ)
    → (clock : ℕ)
    → Option Telemetry
abort_head_at Ground c peer count types clock = None
abort_head_at Craft c peer count types clock =
    Some (telemetry_made c peer count (counter_of types Abort) clock 13 16 [])

-- the same, of an end
abbrev pub abort_head : Side → Config → NodeData → (peer : ℕ) → Option Telemetry
abort_head side c d peer = abort_head_at side c peer d.sending.count d.sending.types d.clock

-- a part is delivered: the end after it, and the answer
abbrev pub part_accepted : Side → Config → NodeData → NamedPart → NodeData × Accepted
part_accepted side c d q =
    after_received side d q
    (part_received (abort_head side c d q.name.source) (receiver_of c d.receiving) q d.clock)
