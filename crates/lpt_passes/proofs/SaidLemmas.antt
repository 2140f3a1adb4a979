-- What the reports of an execution say, report by report.
use Rattle.std.proofs.Common.{◌≡◌, ◌∙◌, ap, sym, refl, ℕ, ◌^◌, ◌<◌, ◌==◌, nat_le, Bool, true, false, if◌then◌else◌, ◌⊎◌, inl, inr, List, [], ◌∷◌, ◌++◌, map, Option, Some, None, IsTrue, arith}
use Rattle.std.specs.List.{AllByRecursion}
use Rattle.std.specs.Option.{option_map_or}
use Rattle.lpt_packet.specs.Numbers.{be}
use Rattle.lpt_pus.specs.declared.failure_code.FailureCode.{FailureCode}
use Rattle.lpt_pus.specs.declared.failure_code.FailureCode.TheVariants.{UnknownRequest}
use Rattle.lpt_pus.specs.Codes.{number_of}
use Rattle.lpt_pus.specs.Commands.{Command, command_in}
use Rattle.lpt_pus.specs.Numbers.{long_at}
use Rattle.lpt_verify.specs.declared.report.EncodedReport.{EncodedReport}
use Rattle.lpt_verify.specs.declared.report.Report.{Report as Verification}
use Rattle.lpt_verify.specs.Reading.{is_success, is_failure, report_in}
use Rattle.lpt_verify.specs.Reports.{asks, success, success_if, failure, acceptance_reports, start_reports, completion_reports, reports_before, reports_after}
use Rattle.lpt_verify.proofs.ReadingLemmas.{IsReport-read}
use Rattle.lpt_memory.specs.declared.reply_kind.ReplyKind.{ReplyKind}
use Rattle.lpt_memory.specs.declared.reply_kind.ReplyKind.TheVariants as reply
use Rattle.lpt_memory.specs.declared.effect.Effect.{Effect}
use Rattle.lpt_memory.specs.declared.effect.Effect.TheVariants as effect
use Rattle.lpt_events.specs.declared.telemetry.TelemetryKind.{TelemetryKind}
use Rattle.lpt_events.specs.declared.telemetry.TelemetryKind.TheVariants.{Accepted, NotAccepted, Started, NotStarted, Completed}
use Rattle.lpt_events.specs.TelemetryKinds.{service_of, subtype_of}
use Rattle.lpt_execution.specs.declared.ending.Ending.{Ending}
use Rattle.lpt_execution.specs.declared.ending.Ending.TheVariants.{Silent, Refused, Carried}
use Rattle.lpt_execution.specs.declared.ending.Report.{Report}
use Rattle.lpt_execution.specs.Endings.{reply_fault, reply_ending, ending}
use Rattle.lpt_execution.specs.Reporting.{verification_kind, verification, data_report, reports_of, message_reports}

-- ---- what a report tells

-- the execution was carried out
abbrev pub WasDone : Ending → Type 0
WasDone end = (given : Option Report) × (end ≡ Carried given)

-- it failed with this code
abbrev pub FailedBy : Ending → ℕ → Type 0
FailedBy end code = (fault : FailureCode) × (end ≡ Refused fault) × (number_of fault ≡ code)

-- a verification report tells of an execution of this request, which ended so
pub record Tells (request : ℕ) (end : Ending) (subtype : ℕ) (said : Verification) : Type 0 where
  pub of_request : said.request.value ≡ request
  pub done : (subtype ≡ 3) ⊎ (subtype ≡ 7) → WasDone end
  pub failed : (code : ℕ) → said.code ≡ Some code → FailedBy end code

-- whatever a report is read as tells of it
abbrev pub IsTold : (request : ℕ) → Ending → Report → Type 0
IsTold request end r =
    (said : Verification)
    → service_of r.kind ≡ 1
    → report_in (subtype_of r.kind) r.body ≡ Some said
    → Tells request end (subtype_of r.kind) said

-- the report of data is none of verification
abbrev pub IsOfData : Ending → Type 0
IsOfData Silent = Unit {0}
IsOfData (Refused code) = Unit {0}
IsOfData (Carried None) = Unit {0}
IsOfData (Carried (Some r)) = service_of r.kind ≡ 6

-- ---- one report

abbrev said_of : ℕ → Option ℕ → Verification
said_of request code = record { request = record { value = request }; code = code }

tells_success : (request n : ℕ) (end : Ending)
    → request < 2 ^ 32
    → IsTrue (is_success n)
    → ((n ≡ 3) ⊎ (n ≡ 7) → WasDone end)
    → (said : Verification)
    → report_in n (be request 4) ≡ Some said
    → Tells request end n said
tells_success request n end fits good done said e =
    let read : report_in n (be request 4) ≡ Some (said_of request None) =
    IsReport-read n (be request 4) (said_of request None)
    (record { is_coded = good; request_fits = fits; code_fits = tt; spelled = refl }) in
    let same : said_of request None ≡ said = cc in
    record {
      of_request = ap (λ (v : Verification). v.request.value) (sym same);
      done = done;
      failed = λ code is.
          absurd (let none : None ≡ Some code =
          ap (λ (v : Verification). v.code) same ∙ is in cc);
    }

tells_failure : (request n : ℕ) (fault : FailureCode)
    → request < 2 ^ 32
    → number_of fault < 2 ^ 16
    → IsTrue (is_failure n)
    → ((n ≡ 3) ⊎ (n ≡ 7) → ⊥)
    → (said : Verification)
    → report_in n (be request 4 ++ be (number_of fault) 2) ≡ Some said
    → Tells request (Refused fault) n said
tells_failure request n fault fits small bad other said e =
    let code = number_of fault in
    let read : report_in n (be request 4 ++ be code 2) ≡ Some (said_of request (Some code)) =
    IsReport-read n (be request 4 ++ be code 2) (said_of request (Some code))
    (record { is_coded = bad; request_fits = fits; code_fits = small; spelled = refl }) in
    let same : said_of request (Some code) ≡ said = cc in
    record {
      of_request = ap (λ (v : Verification). v.request.value) (sym same);
      done = λ k. absurd (other k);
      failed = λ n is.
          let one : Some code ≡ Some n = ap (λ (v : Verification). v.code) same ∙ is in
          (fault, refl, cc);
    }

-- ---- the reports of an execution

both : {A : Type 0} (P : A → Type 0) (xs ys : List A)
    → AllByRecursion P xs
    → AllByRecursion P ys
    → AllByRecursion P (xs ++ ys)
both P [] ys p q = q
both P (x ∷ xs) ys p q = (p.0, both P xs ys p.1 q)

each_told : (P : Report → Type 0) (es : List EncodedReport)
    → AllByRecursion (λ e. P (verification e)) es
    → AllByRecursion P (map verification es)
each_told P [] all = tt
each_told P (e ∷ es) all = (all.0, each_told P es all.1)

if_asked : (P : EncodedReport → Type 0) (b : Bool) (request subtype : ℕ)
    → P (success request subtype)
    → AllByRecursion P (success_if b request subtype)
if_asked P true request subtype p = (p, tt)
if_asked P false request subtype p = tt

code_small : (fault : FailureCode) → number_of fault < 2 ^ 16
code_small UnknownRequest = omega arith
code_small fault = omega arith

module _ (request : ℕ) (fits : request < 2 ^ 32) where
  abbrev Of : Ending → EncodedReport → Type 0
  Of end e = IsTold request end (verification e)

  of_acceptance : (end : Ending) (flags : ℕ)
      → AllByRecursion (Of end) (acceptance_reports request flags)
  of_acceptance end flags =
      if_asked (Of end) (asks flags 1) request 1
      (λ said s e. tells_success request 1 end fits refl
      (λ k. absurd (elim k [ inl l ↦ omega arith | inr r ↦ omega arith ])) said e)

  of_start : (end : Ending) (flags : ℕ)
      → WasDone end
      → AllByRecursion (Of end) (start_reports request flags)
  of_start end flags done =
      if_asked (Of end) (asks flags 2) request 3
      (λ said s e. tells_success request 3 end fits refl (λ k. done) said e)

  of_completion : (end : Ending) (flags : ℕ)
      → WasDone end
      → AllByRecursion (Of end) (completion_reports request flags)
  of_completion end flags done =
      if_asked (Of end) (asks flags 8) request 7
      (λ said s e. tells_success request 7 end fits refl (λ k. done) said e)

  of_failure : (flags : ℕ) (fault : FailureCode)
      → AllByRecursion (Of (Refused fault)) (reports_before request flags (Some (number_of fault)))
  of_failure flags fault = go (nat_le (number_of fault) 2) where
    go : (b : Bool)
        → AllByRecursion (Of (Refused fault))
        (if b then failure request 2 (number_of fault) ∷ []
        else acceptance_reports request flags ++ failure request 4 (number_of fault) ∷ [])
    go true = (
      λ said s e. tells_failure request 2 fault fits (code_small fault) refl
          (λ k. elim k [ inl l ↦ omega arith | inr r ↦ omega arith ]) said e,
      tt,
    )
    go false =
        both (Of (Refused fault)) (acceptance_reports request flags)
        (failure request 4 (number_of fault) ∷ []) (of_acceptance (Refused fault) flags) (
          λ said s e. tells_failure request 4 fault fits (code_small fault) refl
              (λ k. elim k [ inl l ↦ omega arith | inr r ↦ omega arith ]) said e,
          tt,
        )

  of_data : (given : Option Report)
      → IsOfData (Carried given)
      → AllByRecursion (IsTold request (Carried given)) (data_report given)
  of_data None is = tt
  of_data (Some r) is = (λ said s e. absurd (let no : 6 ≡ 1 = sym is ∙ s in omega arith), tt)

  told_of : (flags : ℕ) (end : Ending)
      → IsOfData end
      → AllByRecursion (IsTold request end) (reports_of request flags end)
  told_of flags Silent is = tt
  told_of flags (Refused fault) is =
      each_told (IsTold request (Refused fault))
      (reports_before request flags (Some (number_of fault))) (of_failure flags fault)
  told_of flags (Carried given) is =
      let P = IsTold request (Carried given) in
      let done : WasDone (Carried given) = (given, refl) in
      let front = map verification (reports_before request flags None) in
      let behind = map verification (reports_after request flags None) in
      both P (front ++ data_report given) behind
      (both P front (data_report given)
      (each_told P (reports_before request flags None)
      (both (Of (Carried given)) (acceptance_reports request flags) (start_reports request flags)
      (of_acceptance (Carried given) flags) (of_start (Carried given) flags done)))
      (of_data given is))
      (each_told P (reports_after request flags None) (of_completion (Carried given) flags done))

-- each report of a message tells of its execution
pub message_told : (apid : ℕ) (m : List ℕ) (end : Ending)
    → long_at m 0 < 2 ^ 32
    → IsOfData end
    → AllByRecursion (IsTold (long_at m 0) end) (message_reports apid m end)
message_told apid m end fits is = go (command_in apid m) where
  go : (o : Option Command)
      → AllByRecursion (IsTold (long_at m 0) end)
      (option_map_or (λ (c : Command). reports_of (long_at m 0) c.flags end) o [])
  go None = tt
  go (Some c) = told_of (long_at m 0) fits c.flags end is

-- what an execution comes to reports data of service 6
pub of_data_only : (p : ℕ) (free room : Bool) (e : Effect) → IsOfData (ending p free room e)
of_data_only p free room effect.Silent = tt
of_data_only p free room (effect.Code code) = tt
of_data_only p free room effect.Done = tt
of_data_only p free room (effect.Reply k body) = go (reply_fault p _ free room) k where
  go : (f : Option FailureCode) (k : ReplyKind) → IsOfData (reply_ending f k body)
  go (Some code) k = tt
  go None reply.Dump = refl
  go None reply.Check = refl

-- ---- the report of data

-- a report of service 6 is the report of data of the execution
abbrev pub IsTheData : Ending → Report → Type 0
IsTheData end r = service_of r.kind ≡ 6 → end ≡ Carried (Some r)

either : {A : Type 0} (P : A → Type 0) (b : Bool) (x y : A) → P x → P y → P (if b then x else y)
either P true x y p q = p
either P false x y p q = q

of_service_one : (n : ℕ) → service_of (verification_kind n) ≡ 1
of_service_one n =
    let P = λ (k : TelemetryKind). service_of k ≡ 1 in
    let fourth = either P (n == 4) NotStarted Completed refl refl in
    let third = either P (n == 3) Started _ refl fourth in
    let second = either P (n == 2) NotAccepted _ refl third in
    either P (n == 1) Accepted _ refl second

no_data : (end : Ending) (es : List EncodedReport)
    → AllByRecursion (IsTheData end) (map verification es)
no_data end [] = tt
no_data end (e ∷ es) = (
  λ s. absurd (let no : 1 ≡ 6 = sym (of_service_one e.subtype) ∙ s in omega arith),
  no_data end es,
)

the_data : (given : Option Report) → AllByRecursion (IsTheData (Carried given)) (data_report given)
the_data None = tt
the_data (Some r) = (λ s. refl, tt)

only_data : (request flags : ℕ) (end : Ending)
    → AllByRecursion (IsTheData end) (reports_of request flags end)
only_data request flags Silent = tt
only_data request flags (Refused fault) =
    no_data (Refused fault) (reports_before request flags (Some (number_of fault)))
only_data request flags (Carried given) =
    let P = IsTheData (Carried given) in
    let front = map verification (reports_before request flags None) in
    let behind = map verification (reports_after request flags None) in
    both P (front ++ data_report given) behind
    (both P front (data_report given) (no_data (Carried given) (reports_before request flags None))
    (the_data given))
    (no_data (Carried given) (reports_after request flags None))

-- of a message's reports only that of data is of service 6
pub message_data : (apid : ℕ) (m : List ℕ) (end : Ending)
    → AllByRecursion (IsTheData end) (message_reports apid m end)
message_data apid m end = go (command_in apid m) where
  go : (o : Option Command)
      → AllByRecursion (IsTheData end)
      (option_map_or (λ (c : Command). reports_of (long_at m 0) c.flags end) o [])
  go None = tt
  go (Some c) = only_data (long_at m 0) c.flags end
