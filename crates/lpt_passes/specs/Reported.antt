-- What verification reports on the link say of the requests that left the queue.
use Rattle.std.specs.Prelude.{◌≡◌, ◌≢◌, ◌⊎◌, ℕ, suc, List, take, drop, slice_get, Option, Some}
use Rattle.lpt_packet.specs.declared.direction.Direction.TheVariants.{Down}
use Rattle.lpt_pus.specs.declared.failure_code.FailureCode.{FailureCode}
use Rattle.lpt_pus.specs.Codes.{number_of}
use Rattle.lpt_pus.specs.Numbers.{long_at}
use Rattle.lpt_pus.specs.Telemetry.{Telemetry, telemetry_in}
use Rattle.lpt_memory.specs.declared.request.AreaRange.{AreaRange}
use Rattle.lpt_memory.specs.Effects.{dump_body}
use Rattle.lpt_memory.specs.Meanings.{Dump, meaning}
use Rattle.lpt_memory.specs.Memories.{Contents, sizes_of, effect}
use Rattle.lpt_verify.specs.declared.report.Report.{Report as Verification}
use Rattle.lpt_verify.specs.Reading.{report_in}
use Rattle.lpt_events.specs.Configs.{IsConfig}
use Rattle.lpt_events.specs.declared.config.Config.{Config}
use Rattle.lpt_events.specs.declared.entry.Opening.{Opening}
use Rattle.lpt_events.specs.declared.entry.Release.{Release}
use Rattle.lpt_acts.specs.Acts.{Leaving, Execute, Act, Apply}
use Rattle.lpt_events.specs.TelemetryKinds.{service_of, subtype_of}
use Rattle.lpt_execution.specs.declared.ending.Ending.{Ending}
use Rattle.lpt_execution.specs.declared.ending.Ending.TheVariants.{Refused, Carried}
use Rattle.lpt_execution.specs.declared.ending.Report.{Report}
use Rattle.lpt_execution.specs.Reporting.{message_reports, request_source}
use Rattle.lpt_journal.specs.Executions.{ending_of}
use Rattle.lpt_journal.specs.Jobs.{front_job, executed, memories}
use Rattle.lpt_journal.specs.Journal.{SentPacket, Recorded, History}
use Rattle.lpt_journal.specs.Legal.{Legal}
use Rattle.lpt_journal.specs.Link.{sent}
use Rattle.lpt_journal.specs.Replies.{history_after}

-- ---- executions

-- the entry of this number executed a request, so that it is one of those that were executed; the
-- memories are then what it leaves of those before it
pub record IsExecutedAt (c : Config) (first : Contents) (h : History) (number : ℕ)
    (r : Release) : Type 0 where
  pub place : ℕ
  pub is_executed : slice_get (executed c h) place ≡ Some r
  pub so_far : executed c (drop (suc number) h) ≡ take place (executed c h)
  pub left : memories c first (drop number h)
      ≡ effect
      (meaning c.apid (sizes_of (memories c first (drop (suc number) h))) r.message)
      (memories c first (drop (suc number) h))

-- what the entry of this number did to the memories with a request that left so: nothing, unless it
-- executed it
abbrev pub Did : Config → Contents → History → ℕ → Release → Leaving → Type 0
Did c first h number r Execute = IsExecutedAt c first h number r
Did c first h number r how =
    memories c first (drop number h) ≡ memories c first (drop (suc number) h)

-- By an entry the oldest request left so, and ended so. Behind an entry stands the history before
-- it.
pub record HasLeft (c : Config) (first : Contents) (h : History) (how : Leaving) (r : Release)
    (end : Ending) : Type 0 where
  pub number : ℕ
  pub entry : Recorded
  pub is_there : slice_get h number ≡ Some entry
  pub applies : entry.event ≡ Apply how
  pub was_oldest : front_job c (drop (suc number) h) ≡ Some r
  pub ended : ending_of c first (drop (suc number) h) how r.message ≡ end
  pub did : Did c first h number r how

-- it was executed
abbrev pub WasExecuted : Config → Contents → History → Release → Ending → Type 0
WasExecuted c first h r end = HasLeft c first h Execute r end

-- a request of this source and with this request ID, its first four octets, was executed and
-- carried out
pub record WasCarriedOut (c : Config) (first : Contents) (h : History)
    (from request : ℕ) : Type 0 where
  pub release : Release
  pub answer : Option Report
  pub execution : WasExecuted c first h release (Carried answer)
  pub of_source : request_source c.apid release.message ≡ from
  pub is_request : long_at release.message 0 ≡ request

-- a request of this source and with this request ID was executed and failed with this code, or was
-- refused with it: no memory was changed
pub record HasFailed (c : Config) (first : Contents) (h : History)
    (from request code : ℕ) : Type 0 where
  pub release : Release
  pub fault : FailureCode
  pub how : Leaving
  pub execution : HasLeft c first h how release (Refused fault)
  pub of_source : request_source c.apid release.message ≡ from
  pub is_request : long_at release.message 0 ≡ request
  pub of_code : number_of fault ≡ code
  pub unchanged : memories c first (drop execution.number h)
      ≡ memories c first (drop (suc execution.number) h)

-- ---- reports

-- the packet goes down, and is telemetry to this destination, of this service and message subtype,
-- with this body
pub record IsTelemetryDown (c : Config) (p : SentPacket) (to service subtype : ℕ)
    (body : List ℕ) : Type 0 where
  pub goes_down : p.direction ≡ Down
  pub telemetry : Telemetry
  pub is_read : telemetry_in c.apid p.octets ≡ Some telemetry
  pub goes_to : telemetry.destination ≡ to
  pub of_service : telemetry.service ≡ service
  pub of_subtype : telemetry.subtype ≡ subtype
  pub of_body : telemetry.body ≡ body

-- the packet is a verification report to this destination, of this message subtype, which says this
pub record IsVerification (c : Config) (p : SentPacket) (to subtype : ℕ)
    (said : Verification) : Type 0 where
  pub body : List ℕ
  pub is_down : IsTelemetryDown c p to 1 subtype body
  pub says : report_in subtype body ≡ Some said

-- a report of a request that left goes to this destination, the source of its request, and has this
-- service, message subtype and body
pub record IsReportOf (c : Config) (first : Contents) (h : History) (to service subtype : ℕ)
    (body : List ℕ) : Type 0 where
  pub release : Release
  pub end : Ending
  pub how : Leaving
  pub execution : HasLeft c first h how release end
  pub number : ℕ
  pub report : Report
  pub is_report : slice_get (message_reports c.apid release.message end) number ≡ Some report
  pub of_source : request_source c.apid release.message ≡ to
  pub of_service : service_of report.kind ≡ service
  pub of_subtype : subtype_of report.kind ≡ subtype
  pub of_body : report.body ≡ body

-- The message was opened by an entry by which a request left: a report that is too long for the
-- link goes down in parts.
pub record WasOpened (c : Config) (first : Contents) (es : List Act) (m : List ℕ) : Type 0 where
  pub number : ℕ
  pub entry : Recorded
  pub is_there : slice_get (history_after c first es) number ≡ Some entry
  pub how : Leaving
  pub applies : entry.event ≡ Apply how
  pub place : ℕ
  pub opening : Opening
  pub opens : slice_get entry.opens place ≡ Some opening
  pub is : opening.message ≡ m

-- a dump of this source was executed, and this is what it says of the memories as they were then
pub record WasDumped (c : Config) (first : Contents) (h : History) (from : ℕ)
    (body : List ℕ) : Type 0 where
  pub release : Release
  pub answer : Option Report
  pub execution : WasExecuted c first h release (Carried answer)
  pub of_source : request_source c.apid release.message ≡ from
  pub memory : ℕ
  pub ranges : List AreaRange
  pub is_dump : meaning c.apid
      (sizes_of (memories c first (drop (suc execution.number) h)))
      release.message
      ≡ Dump memory ranges
  pub is_body : body ≡ dump_body memory ranges (memories c first (drop (suc execution.number) h))

-- ---- the laws

-- what goes down and is neither of a part nor of an abortion, both of service 13
abbrev pub ReportsAreOfExecutions : Type 0
ReportsAreOfExecutions =
    (c : Config) (first : Contents) (es : List Act) (n : ℕ) (p : SentPacket)
    (to service subtype : ℕ) (body : List ℕ)
    → IsConfig c
    → Legal c first es
    → slice_get (sent (history_after c first es)) n ≡ Some p
    → IsTelemetryDown c p to service subtype body
    → service ≢ 13
    → IsReportOf c first (history_after c first es) to service subtype body

-- what goes down in parts, as it was opened by an execution
abbrev pub OpenedReportsAreOfExecutions : Type 0
OpenedReportsAreOfExecutions =
    (c : Config) (first : Contents) (es : List Act) (m : List ℕ) (to service subtype : ℕ)
    (body : List ℕ)
    → IsConfig c
    → Legal c first es
    → WasOpened c first es m
    → IsTelemetryDown c (record { direction = Down; octets = m }) to service subtype body
    → IsReportOf c first (history_after c first es) to service subtype body

-- what a report of a dump says
abbrev pub DumpedIsMemory : Type 0
DumpedIsMemory =
    (c : Config) (first : Contents) (es : List Act) (n : ℕ) (p : SentPacket) (to : ℕ)
    (body : List ℕ)
    → IsConfig c
    → Legal c first es
    → slice_get (sent (history_after c first es)) n ≡ Some p
    → IsTelemetryDown c p to 6 6 body
    → WasDumped c first (history_after c first es) to body

-- the same of one that goes down in parts
abbrev pub OpenedDumpIsMemory : Type 0
OpenedDumpIsMemory =
    (c : Config) (first : Contents) (es : List Act) (m : List ℕ) (to : ℕ) (body : List ℕ)
    → IsConfig c
    → Legal c first es
    → WasOpened c first es m
    → IsTelemetryDown c (record { direction = Down; octets = m }) to 6 6 body
    → WasDumped c first (history_after c first es) to body

-- what a report of start or of completion says was carried out
abbrev pub CompletedWasExecuted : Type 0
CompletedWasExecuted =
    (c : Config) (first : Contents) (es : List Act) (n : ℕ) (p : SentPacket) (to subtype : ℕ)
    (said : Verification)
    → IsConfig c
    → Legal c first es
    → slice_get (sent (history_after c first es)) n ≡ Some p
    → IsVerification c p to subtype said
    → (subtype ≡ 3) ⊎ (subtype ≡ 7)
    → WasCarriedOut c first (history_after c first es) to said.request.value

-- what a report of a failure says has failed, and changed nothing
abbrev pub FailedChangedNothing : Type 0
FailedChangedNothing =
    (c : Config) (first : Contents) (es : List Act) (n : ℕ) (p : SentPacket)
    (to subtype code : ℕ) (said : Verification)
    → IsConfig c
    → Legal c first es
    → slice_get (sent (history_after c first es)) n ≡ Some p
    → IsVerification c p to subtype said
    → said.code ≡ Some code
    → HasFailed c first (history_after c first es) to said.request.value code
