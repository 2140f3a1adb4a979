-- What an end does with the requests that it has released: claims, commits and executions.
use Rattle.std.specs.Prelude.{◌≡◌, ℕ, ◌==◌, nat_lt, Bool, true, false, if◌then◌else◌, List, [], ◌∷◌, length, Option, Some, None, is_some}
use Rattle.std.specs.FinMap as map
use Rattle.lpt_packet.specs.Names.{Name}
use Rattle.lpt_memory.specs.declared.effect.Effect.{Effect}
use Rattle.lpt_memory.specs.Effects.{answer}
use Rattle.lpt_memory.specs.Given.{answer_of, octets_read, read_length}
use Rattle.lpt_memory.specs.Memories.{Contents, sizes_of, effect}
use Rattle.lpt_memory.specs.Readings.{Source, Job as Ticket, source_meaning}
use Rattle.lpt_jobs.specs.Jobs.{Head, NoJob as NoHead, NotReady as HeadNotReady, Ready, head_of, oldest_unclaimed, after_claim, after_commit, without_front}
use Rattle.lpt_ledger.specs.LeastFree.{least_free_in}
use Rattle.lpt_events.specs.declared.applied.Applied.{Applied}
use Rattle.lpt_events.specs.declared.applied.Applied.TheVariants.{Silent}
use Rattle.lpt_events.specs.declared.config.Config.{Config}
use Rattle.lpt_events.specs.TelemetryKinds.{service_of, subtype_of}
use Rattle.lpt_events.specs.MadePackets.{tm_made}
use Rattle.lpt_pus.specs.declared.failure_code.FailureCode.{FailureCode}
use Rattle.lpt_execution.specs.declared.ending.Ending.{Ending}
use Rattle.lpt_execution.specs.declared.ending.Ending.TheVariants.{Refused}
use Rattle.lpt_execution.specs.declared.ending.Report.{Report}
use Rattle.lpt_execution.specs.Endings.{ending}
use Rattle.lpt_execution.specs.Reporting.{message_reports, request_source, link_packets, large_packets, opened_of, applied_of}
use Rattle.lpt_node.specs.declared.executed.Executed.{Executed}
use Rattle.lpt_node.specs.declared.fault.NodeFault.{NodeFault}
use Rattle.lpt_node.specs.declared.fault.NodeFault.TheVariants.{NoJob, NotReady}
use Rattle.lpt_node.specs.Counting.{counter_of}
use Rattle.lpt_node.specs.Nodes.{Sending, NodeData, NodeView}
use Rattle.lpt_node.specs.Sending.{counted_kind, message_opened}

-- ---- claims

-- why no job is claimed, if this one waits longest
abbrev pub refusal_claim_of : Option (ℕ × List ℕ) → Option NodeFault
refusal_claim_of None = Some NoJob
refusal_claim_of (Some x) = None

-- why no job is claimed
abbrev pub refusal_claim : NodeData → Option NodeFault
refusal_claim d = refusal_claim_of (oldest_unclaimed d.jobs)

-- the job that waits longest is claimed; if none waits, none is, and the call is refused
abbrev pub claimed_of : NodeData → Option (ℕ × List ℕ) → NodeData × Ticket
claimed_of d None = (d, record { boot = d.boot; job = 0; message = [] })
claimed_of d (Some x) = (
  record d { jobs = after_claim d.jobs },
  record { boot = d.boot; job = x.0; message = x.1 },
)

-- a job is claimed: the end after it, and the ticket
abbrev pub job_claimed : NodeData → NodeData × Ticket
job_claimed d = claimed_of d (oldest_unclaimed d.jobs)

-- ---- commits

-- a reading of the job of this boot and number is handed in, and whether it still counts: it does
-- in the job's own boot alone
abbrev pub job_committed : NodeData → (boot job : ℕ) → Source → NodeData × Bool
job_committed d boot job r =
    if boot == d.boot then (record d { jobs = after_commit d.jobs job r }, true) else (d, false)

-- ---- executions

-- why no job is executed, by what stands at the front of the queue
abbrev pub refusal_apply_of : Head → Option NodeFault
refusal_apply_of NoHead = Some NoJob
refusal_apply_of HeadNotReady = Some NotReady
refusal_apply_of (Ready r) = None

-- why no job is executed
abbrev pub refusal_apply : NodeData → Option NodeFault
refusal_apply d = refusal_apply_of (head_of d.jobs.jobs)

-- the reading at the front, if there is one, was made for this APID and these memories' sizes
abbrev pub FrontIsFor : Head → (apid : ℕ) → Contents → Type 0
FrontIsFor NoHead apid ms = Unit {0}
FrontIsFor HeadNotReady apid ms = Unit {0}
FrontIsFor (Ready r) apid ms = (r.apid ≡ apid) × (r.sizes ≡ sizes_of ms)

-- the same, of an end's queue
abbrev pub IsReadFor : NodeView → Contents → Type 0
IsReadFor n ms = FrontIsFor (head_of n.at.jobs.jobs) n.config.apid ms

-- how the execution of a reading ends that comes to this; a reply could be opened under a name of the
-- request's own source
abbrev pub ending_with : Config → NodeData → Source → Effect → Ending
ending_with c d r effect =
    ending c.part_size
    (is_some (least_free_in d.sending.ledger (request_source r.apid r.message)))
    (nat_lt (map.len d.sending.messages) d.outgoing) effect

-- the same over these memories
abbrev pub ending_at : Config → NodeData → Contents → Source → Ending
ending_at c d ms r = ending_with c d r (answer (source_meaning r) ms)

-- the same by the octets that it reads of memories
abbrev pub ending_given : Config → NodeData → List ℕ → Source → Ending
ending_given c d octets r = ending_with c d r (answer_of (source_meaning r) octets)

-- the octets of a report to this destination, by the counts of its sender and the clock
abbrev pub report_packet : Config → (peer : ℕ) → Sending → (clock : ℕ) → Report → List ℕ
report_packet c peer s clock r =
    tm_made c peer s.count (counter_of s.types r.kind) clock (service_of r.kind)
    (subtype_of r.kind) r.body

-- reports with their packets, each by the counts after those before it
abbrev pub report_packets : Config
    → (peer : ℕ)
    → Sending
    → (clock : ℕ)
    → List Report
    → List (Report × List ℕ)
report_packets c peer s clock [] = []
report_packets c peer s clock (r ∷ rs) =
    (r, report_packet c peer s clock r) ∷ report_packets c peer (counted_kind s r.kind) clock rs

-- reports were made
abbrev pub reports_made : Sending → List Report → Sending
reports_made s [] = s
reports_made s (r ∷ rs) = reports_made (counted_kind s r.kind) rs

-- the end once a report of data was opened as a message, or none
abbrev pub with_opened : NodeData → Option (Name × List ℕ) → NodeData
with_opened d None = d
with_opened d (Some x) = message_opened d x.0 x.1

-- what the execution of a job answers: what became of it, the packets to be put on the link, and the
-- message that was opened
pub record Execution : Type 0 where
  pub applied : Applied
  pub packets : List (List ℕ)
  pub opened : Option (Name × List ℕ)

-- an answer as it is seen
abbrev pub execution : Executed → Execution
execution x = record { applied = x.applied; packets = x.packets.items; opened = x.opened }

-- the front job was executed, which ended so, has these reports to this destination, and opened this,
-- or nothing
abbrev pub executed_with : Config
    → NodeData
    → (peer : ℕ)
    → Ending
    → List Report
    → Option (Name × List ℕ)
    → NodeData × Execution
executed_with c d peer end reports message = (
  with_opened (record d { sending = reports_made d.sending reports; jobs = without_front d.jobs })
      message,
  record {
    applied = applied_of end message;
    packets = link_packets c.part_size (report_packets c peer d.sending d.clock reports);
    opened = message;
  },
)

-- the same, if its execution ends so: its reports go to the request's own source, and what is
-- opened of them has a name of that source
abbrev pub executed_ending : Config → NodeData → Source → Ending → NodeData × Execution
executed_ending c d r end =
    let peer = request_source r.apid r.message in
    let reports = message_reports r.apid r.message end in
    executed_with c d peer end reports
    (opened_of (least_free_in d.sending.ledger peer)
    (large_packets c.part_size (report_packets c peer d.sending d.clock reports)))

-- nothing is executed, and the call is refused
abbrev pub not_executed : Execution
not_executed = record { applied = Silent; packets = []; opened = None }

-- what stands at the front is executed over these memories
abbrev pub executed_of : Config → NodeData → Contents → Head → (NodeData × Execution) × Contents
executed_of c d ms NoHead = ((d, not_executed), ms)
executed_of c d ms HeadNotReady = ((d, not_executed), ms)
executed_of c d ms (Ready r) =
    (executed_ending c d r (ending_at c d ms r), effect (source_meaning r) ms)

-- the oldest job is executed: the end after it with the answer, and the memories after it
abbrev pub job_executed : Config → NodeData → Contents → (NodeData × Execution) × Contents
job_executed c d ms = executed_of c d ms (head_of d.jobs.jobs)

-- ---- executions if the memories are elsewhere

-- the reading at the front, if there is one
abbrev pub front_reading : Head → Option Source
front_reading NoHead = None
front_reading HeadNotReady = None
front_reading (Ready r) = Some r

-- what stands at the front reads so many octets as these
abbrev pub FrontReads : Head → List ℕ → Type 0
FrontReads NoHead octets = Unit {0}
FrontReads HeadNotReady octets = Unit {0}
FrontReads (Ready r) octets = length octets ≡ read_length (source_meaning r)

-- these memories have these octets where it reads
abbrev pub FrontHolds : Head → Contents → List ℕ → Type 0
FrontHolds NoHead ms octets = Unit {0}
FrontHolds HeadNotReady ms octets = Unit {0}
FrontHolds (Ready r) ms octets = octets_read (source_meaning r) ms ≡ octets

-- what stands at the front is executed, and ends so
abbrev pub executed_so : Config → NodeData → (Source → Ending) → Head → NodeData × Execution
executed_so c d end NoHead = (d, not_executed)
executed_so c d end HeadNotReady = (d, not_executed)
executed_so c d end (Ready r) = executed_ending c d r (end r)

-- the oldest job is executed, if memories have these octets that it reads: the end after it with
-- the answer
abbrev pub executed_given : Config → NodeData → List ℕ → NodeData × Execution
executed_given c d octets = executed_so c d (ending_given c d octets) (head_of d.jobs.jobs)

-- ---- refusals

-- the oldest job is refused with this failure code, and nothing that it asks is done: the end after it
-- with the answer
abbrev pub refused_front : Config → NodeData → FailureCode → NodeData × Execution
refused_front c d code = executed_so c d (λ r. Refused code) (head_of d.jobs.jobs)
