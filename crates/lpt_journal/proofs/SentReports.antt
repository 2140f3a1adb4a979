-- The reports of an execution: their packets arrive as reports, and how long they are.
use Rattle.std.proofs.Common.{◌≡◌, ◌∙◌, ap, refl, ℕ, ◌+◌, ◌^◌, ◌<◌, ◌≤◌, ◌==◌, nat_le, Bool, true, false, ◌&&◌, if◌then◌else◌, not, List, [], ◌∷◌, ◌++◌, length, map, Option, Some, None, arith}
use Rattle.std.specs.List.{AllByRecursion}
use Rattle.std.specs.Option.{option_map_or}
use Rattle.lpt_packet.specs.declared.direction.Direction.TheVariants.{Down}
use Rattle.lpt_pus.specs.declared.failure_code.FailureCode.{FailureCode}
use Rattle.lpt_pus.specs.Codes.{number_of}
use Rattle.lpt_pus.specs.Commands.{Command, command_in}
use Rattle.lpt_pus.specs.Numbers.{long_at}
use Rattle.lpt_pus.specs.Telemetry.{TelemetryFits}
use Rattle.lpt_pus.proofs.TelemetryLemmas.{length-spelling_tm}
use Rattle.lpt_part.specs.declared.kind.Kind.{Kind}
use Rattle.lpt_part.specs.declared.kind.Kind.TheVariants.{First, Middle, Last}
use Rattle.lpt_verify.specs.declared.report.EncodedReport.{EncodedReport}
use Rattle.lpt_verify.specs.Reports.{success_if, asks, failure, acceptance_reports, start_reports, completion_reports, reports_before, reports_after}
use Rattle.lpt_memory.specs.Effects.{AnswerFits}
use Rattle.lpt_memory.specs.declared.reply_kind.ReplyKind.{ReplyKind}
use Rattle.lpt_memory.specs.declared.reply_kind.ReplyKind.TheVariants as reply
use Rattle.lpt_memory.specs.declared.effect.Effect.{Effect}
use Rattle.lpt_memory.specs.declared.effect.Effect.TheVariants as effect
use Rattle.lpt_events.specs.declared.config.Config.{Config}
use Rattle.lpt_events.specs.declared.telemetry.TelemetryKind.{TelemetryKind}
use Rattle.lpt_events.specs.declared.telemetry.TelemetryKind.TheVariants.{Accepted, NotAccepted, Started, NotStarted, Completed}
use Rattle.lpt_events.specs.TelemetryKinds.{service_of, subtype_of}
use Rattle.lpt_events.specs.Arrivals.{AReport, part_subtype, carried_kind, report_arrival, part_arrival, abort_arrival, arrival_in}
use Rattle.lpt_events.specs.MadePackets.{telemetry_made, tm_made}
use Rattle.lpt_events.specs.Configs.{IsConfig}
use Rattle.lpt_execution.specs.declared.ending.Ending.{Ending}
use Rattle.lpt_execution.specs.declared.ending.Ending.TheVariants.{Silent, Refused, Carried}
use Rattle.lpt_execution.specs.declared.ending.Report.{Report}
use Rattle.lpt_execution.specs.Endings.{reply_fault, reply_ending, ending}
use Rattle.lpt_execution.specs.Reporting.{verification, data_report, reports_of, message_reports}
use Rattle.lpt_journal.specs.Journal.{with_all}
use Rattle.lpt_journal.specs.Senders.{count_after, counter_after}
use Rattle.lpt_journal.specs.Executions.{report_after}
use Rattle.lpt_journal.specs.Executions as executions
use Rattle.lpt_events.specs.Counts.{AreCounts}
use Rattle.lpt_events.proofs.ArrivalLemmas.{telemetry_arrives}

-- ---- a packet

carries_none : (service subtype : ℕ)
    → (service == 13) ≡ false
    → carried_kind Down service subtype ≡ None
carries_none service subtype e =
    ap (λ b. if not b then None
    else if subtype == part_subtype Down First then Some First
    else if subtype == part_subtype Down Middle then Some Middle
    else if subtype == part_subtype Down Last then Some Last
    else None) e

-- telemetry of another service than that of parts and abortion reports arrives as a report
pub report_arrives : (c : Config) (peer count counter time service subtype : ℕ) (body : List ℕ)
    → IsConfig c
    → peer < 65536
    → AreCounts count counter time
    → service < 256
    → subtype < 256
    → (service == 13) ≡ false
    → length body ≤ 65523
    → arrival_in c Down (tm_made c peer count counter time service subtype body)
    ≡ AReport service subtype
report_arrives c peer count counter time service subtype body good fits counts s t other short =
    let it = telemetry_made c peer count counter time service subtype body in
    let in_range : TelemetryFits it = record {
      head_fits =
          record {
            apid_fits = good.apid_fits;
            count_fits = counts.count_fits;
            status_fits = omega arith;
          };
      service_fits = s;
      subtype_fits = t;
      counter_fits = counts.counter_fits;
      destination_fits = fits;
      time_fits = counts.time_fits;
      body_fits = short;
    } in
    telemetry_arrives c.apid c.part_size it in_range refl
    ∙ ap (λ (o : Option Kind). option_map_or (part_arrival c.part_size peer body) o (report_arrival it))
    (carries_none service subtype other)
    ∙ ap (λ b. if b && (subtype == 16) then abort_arrival peer body else AReport service subtype) other

-- ---- reports

-- a report is of another service than that of parts, and fits a packet
pub record IsSendable (r : Report) : Type 0 where
  pub no_part : (service_of r.kind == 13) ≡ false
  pub fits : length r.body ≤ 65523

-- the packet of a report arrives as a report, and has 19 octets besides the report's body
pub record IsReportMade (c : Config) (x : Report × List ℕ) : Type 0 where
  pub fits : length x.0.body ≤ 65523
  pub arrives : arrival_in c Down x.1 ≡ AReport (service_of x.0.kind) (subtype_of x.0.kind)
  pub long : length x.1 ≡ length x.0.body + 19

service_small : (k : TelemetryKind) → service_of k < 256
service_small Accepted = omega arith
service_small k = omega arith

subtype_small : (k : TelemetryKind) → subtype_of k < 256
subtype_small Accepted = omega arith
subtype_small k = omega arith

-- of reports that fit all packets are made so
pub all_made : (c : Config) (peer : ℕ) (packets : List (List ℕ)) (time : ℕ) (rs : List Report)
    → IsConfig c
    → peer < 65536
    → time < 2 ^ 32
    → AllByRecursion IsSendable rs
    → AllByRecursion (IsReportMade c) (executions.reports_after c peer packets time rs)
all_made c peer packets time [] good to t all = tt
all_made c peer packets time (r ∷ rs) good to t all =
    let count = count_after packets in
    let counter = counter_after packets (service_of r.kind) (subtype_of r.kind) in
    let counts : AreCounts count counter time =
    record { count_fits = omega arith; counter_fits = omega arith; time_fits = t } in (
      record {
        fits = all.0.fits;
        arrives =
            report_arrives c peer count counter time (service_of r.kind) (subtype_of r.kind)
            r.body good to counts (service_small r.kind) (subtype_small r.kind) all.0.no_part all.0.fits;
        long =
            length-spelling_tm
            (telemetry_made c peer count counter time (service_of r.kind) (subtype_of r.kind) r.body);
      },
      all_made c peer (with_all packets (report_after c peer packets time r ∷ [])) time rs good to t
          all.1,
    )

-- ---- the reports of an execution

either : {A : Type 0} (P : A → Type 0) (b : Bool) (x y : A) → P x → P y → P (if b then x else y)
either P true x y p q = p
either P false x y p q = q

all_append : {A : Type 0} (P : A → Type 0) (xs ys : List A)
    → AllByRecursion P xs
    → AllByRecursion P ys
    → AllByRecursion P (xs ++ ys)
all_append P [] ys p q = q
all_append P (x ∷ xs) ys p q = (p.0, all_append P xs ys p.1 q)

abbrev AreShort : List EncodedReport → Type 0
AreShort es = AllByRecursion (λ e. length e.body ≤ 6) es

verified : (es : List EncodedReport)
    → AreShort es
    → AllByRecursion IsSendable (map verification es)
verified [] short = tt
verified (e ∷ es) short =
    let P = λ (k : TelemetryKind). (service_of k == 13) ≡ false in
    let last = either P (e.subtype == 4) NotStarted Completed refl refl in
    let third = either P (e.subtype == 3) Started _ refl last in
    let second = either P (e.subtype == 2) NotAccepted _ refl third in
    let first = either P (e.subtype == 1) Accepted _ refl second in (
      record { no_part = first; fits = omega (arith, short.0) },
      verified es short.1,
    )

if_asked : (b : Bool) (request subtype : ℕ)
    → AreShort (success_if b request subtype)
if_asked true request subtype = (omega arith, tt)
if_asked false request subtype = tt

before_short : (request flags : ℕ) (code : Option ℕ)
    → AreShort (reports_before request flags code)
before_short request flags None =
    all_append (λ (e : EncodedReport). length e.body ≤ 6) (acceptance_reports request flags)
    (start_reports request flags) (if_asked (asks flags 1) request 1)
    (if_asked (asks flags 2) request 3)
before_short request flags (Some code) =
    either AreShort (nat_le code 2) (failure request 2 code ∷ [])
    (acceptance_reports request flags ++ failure request 4 code ∷ []) (omega arith, tt)
    (all_append (λ (e : EncodedReport). length e.body ≤ 6) (acceptance_reports request flags)
    (failure request 4 code ∷ []) (if_asked (asks flags 1) request 1) (omega arith, tt))

-- the report of data of an ending, where it has one, fits a packet
abbrev pub EndingFits : Ending → Type 0
EndingFits (Carried (Some r)) = IsSendable r
EndingFits _ = Unit {0}

data_sendable : (r : Option Report) → EndingFits (Carried r) → AllByRecursion IsSendable (data_report r)
data_sendable None fits = tt
data_sendable (Some r) fits = (fits, tt)

of_ending : (request flags : ℕ) (end : Ending)
    → EndingFits end
    → AllByRecursion IsSendable (reports_of request flags end)
of_ending request flags Silent fits = tt
of_ending request flags (Refused code) fits =
    verified (reports_before request flags (Some (number_of code)))
    (before_short request flags (Some (number_of code)))
of_ending request flags (Carried r) fits =
    let front = map verification (reports_before request flags None) in
    let behind = map verification (reports_after request flags None) in
    all_append IsSendable (front ++ data_report r) behind
    (all_append IsSendable front (data_report r)
    (verified (reports_before request flags None) (before_short request flags None))
    (data_sendable r fits))
    (verified (completion_reports request flags) (if_asked (asks flags 8) request 7))

-- the reports of a message fit packets
pub message_sendable : (apid : ℕ) (m : List ℕ) (end : Ending)
    → EndingFits end
    → AllByRecursion IsSendable (message_reports apid m end)
message_sendable apid m end fits = go (command_in apid m) where
  go : (o : Option Command)
      → AllByRecursion IsSendable
      (option_map_or (λ (c : Command). reports_of (long_at m 0) c.flags end) o [])
  go None = tt
  go (Some c) = of_ending (long_at m 0) c.flags end fits

-- an execution whose answer fits a packet ends so
pub ending_fits : (p : ℕ) (free room : Bool) (e : Effect)
    → AnswerFits e
    → EndingFits (ending p free room e)
ending_fits p free room effect.Silent fits = tt
ending_fits p free room (effect.Code code) fits = tt
ending_fits p free room effect.Done fits = tt
ending_fits p free room (effect.Reply k body) fits =
    go (reply_fault p (length body) free room) k fits
  where
    go : (f : Option FailureCode) (k : ReplyKind)
        → length body ≤ 65523
        → EndingFits (reply_ending f k body)
    go (Some code) k fits = tt
    go None reply.Dump fits = record { no_part = refl; fits = fits }
    go None reply.Check fits = record { no_part = refl; fits = fits }
