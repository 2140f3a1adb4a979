-- What is made for an execution before anything is changed.
use Rattle.std.specs.Prelude.{ℕ, List, []}
use Rattle.lpt_memory.specs.Memories.{Contents}
use Rattle.lpt_memory.specs.Readings.{Source}
use Rattle.lpt_events.specs.declared.config.Config.{Config}
use Rattle.lpt_execution.specs.declared.ending.Ending.{Ending}
use Rattle.lpt_execution.specs.declared.ending.Ending.TheVariants.{Refused}
use Rattle.lpt_execution.specs.declared.ending.Report.{Report}
use Rattle.lpt_execution.specs.Reporting.{message_reports, request_source}
use Rattle.lpt_jobs.specs.Jobs.{Head, NoJob, NotReady, Ready}
use Rattle.lpt_pus.specs.declared.failure_code.FailureCode.{FailureCode}
use Rattle.lpt_node.specs.declared.counts.Counts.{Counts}
use Rattle.lpt_node.specs.Jobs.{ending_at, ending_given, report_packets}
use Rattle.lpt_node.specs.Nodes.{Sending, NodeData}

-- what an end keeps to send, with these counts
abbrev pub with_counts : Sending → Counts → Sending
with_counts s counts = record s { count = counts.count; types = counts.types }

-- the reports of the execution of a reading that ends so
abbrev pub reports_of : Source → Ending → List Report
reports_of r end = message_reports r.apid r.message end

-- the same, with their packets
abbrev pub made_of : Config → NodeData → Source → Ending → List (Report × List ℕ)
made_of c d r end =
    report_packets c (request_source r.apid r.message) d.sending d.clock (reports_of r end)

-- the reports of the execution of what stands at the front, if it is ready
abbrev pub front_reports : Config → NodeData → Contents → Head → List Report
front_reports c d ms NoJob = []
front_reports c d ms NotReady = []
front_reports c d ms (Ready r) = reports_of r (ending_at c d ms r)

-- the same by the octets that it reads of memories
abbrev pub reports_given : Config → NodeData → List ℕ → Head → List Report
reports_given c d octets NoJob = []
reports_given c d octets NotReady = []
reports_given c d octets (Ready r) = reports_of r (ending_given c d octets r)

-- the same if it is refused with this failure code
abbrev pub reports_refused : FailureCode → Head → List Report
reports_refused code NoJob = []
reports_refused code NotReady = []
reports_refused code (Ready r) = reports_of r (Refused code)
