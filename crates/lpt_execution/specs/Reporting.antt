-- The reports of an execution, in their order.
use Rattle.std.specs.Prelude.{ℕ, ◌==◌, not, if◌then◌else◌, List, [], ◌∷◌, ◌++◌, length, map, Option, Some, None}
use Rattle.std.specs.List.{filter}
use Rattle.std.specs.Option.{option_map, option_map_or}
use Rattle.lpt_packet.specs.Names.{Name}
use Rattle.lpt_pus.specs.Numbers.{long_at}
use Rattle.lpt_pus.specs.Codes.{number_of}
use Rattle.lpt_pus.specs.Commands.{command_in}
use Rattle.lpt_verify.specs.declared.report.EncodedReport.{EncodedReport}
use Rattle.lpt_verify.specs.Reports.{reports_before, reports_after}
use Rattle.lpt_events.specs.declared.applied.Applied.{Applied}
use Rattle.lpt_events.specs.declared.applied.Applied.TheVariants as applied
use Rattle.lpt_events.specs.declared.telemetry.TelemetryKind.{TelemetryKind}
use Rattle.lpt_events.specs.declared.telemetry.TelemetryKind.TheVariants.{Accepted, NotAccepted, Started, NotStarted, Completed}
use Rattle.lpt_execution.specs.declared.ending.Ending.{Ending}
use Rattle.lpt_execution.specs.declared.ending.Ending.TheVariants.{Silent, Refused, Carried}
use Rattle.lpt_execution.specs.declared.ending.Report.{Report}
use Rattle.lpt_execution.specs.Endings.{is_small}

-- the kind of the verification report of this message subtype, one of 1, 2, 3, 4 and 7
abbrev pub verification_kind : ℕ → TelemetryKind
verification_kind subtype =
    if subtype == 1 then Accepted
    else if subtype == 2 then NotAccepted
    else if subtype == 3 then Started
    else if subtype == 4 then NotStarted
    else Completed

-- a verification report to be sent
abbrev pub verification : EncodedReport → Report
verification e = record { kind = verification_kind e.subtype; body = e.body }

-- the report of data, if there is one
abbrev pub data_report : Option Report → List Report
data_report None = []
data_report (Some report) = report ∷ []

-- the reports of a request of this number and these flags: if it is carried out, the report of
-- data stands between those of acceptance and start and that of completion
abbrev pub reports_of : (request flags : ℕ) → Ending → List Report
reports_of request flags Silent = []
reports_of request flags (Refused code) =
    map verification (reports_before request flags (Some (number_of code)))
reports_of request flags (Carried r) =
    map verification (reports_before request flags None)
    ++ data_report r
    ++ map verification (reports_after request flags None)

-- the reports of a message: its number is that of its first four octets; what is no telecommand
-- with this APID has none
abbrev pub message_reports : (apid : ℕ) → List ℕ → Ending → List Report
message_reports apid m end =
    option_map_or (λ c. reports_of (long_at m 0) c.flags end) (command_in apid m) []

-- the source that a message's reports go to: that of its own header; what is no telecommand with this
-- APID has none
abbrev pub request_source : (apid : ℕ) → List ℕ → ℕ
request_source apid m = option_map_or (λ c. c.source) (command_in apid m) 0

-- ---- reports with the packets that their node has made of them, in their order

-- the packets that go on the link
abbrev pub link_packets : (p : ℕ) → List (Report × List ℕ) → List (List ℕ)
link_packets p made = map (λ x. x.1) (filter (λ x. is_small p (length x.0.body)) made)

-- the packets that are too long for it
abbrev pub large_packets : (p : ℕ) → List (Report × List ℕ) → List (List ℕ)
large_packets p made = map (λ x. x.1) (filter (λ x. not (is_small p (length x.0.body))) made)

-- what is opened under the least free name: of packets that are too long the first; there is one at
-- most
abbrev pub opened_of : Option Name → List (List ℕ) → Option (Name × List ℕ)
opened_of (Some name) (b ∷ bs) = Some (name, b)
opened_of _ _ = None

-- what an execution answers that ended so, and opened this, or nothing
abbrev pub applied_of : Ending → Option (Name × List ℕ) → Applied
applied_of Silent opened = applied.Silent
applied_of (Refused code) opened = applied.Code code
applied_of (Carried r) opened = applied.Done (option_map (λ x. x.0) opened)

-- an answer with the name of what was opened, or none
abbrev pub with_name : Applied → Option (Name × List ℕ) → Applied
with_name applied.Silent opened = applied.Silent
with_name (applied.Code code) opened = applied.Code code
with_name (applied.Done name) opened = applied.Done (option_map (λ x. x.0) opened)
