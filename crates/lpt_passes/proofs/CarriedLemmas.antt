-- In every legal journal each verification report on the link tells of an execution.
use Rattle.std.proofs.Common.{◌≡◌, ◌∙◌, ap, sym, subst, refl, ℕ, zero, suc, ◌^◌, ◌<◌, Bool, inl, inr, List, [], ◌∷◌, length, drop, Option, Some, None, arith}
use Rattle.std.proofs.lemmas.Bool.{ne_eqb}
use Rattle.std.specs.List.{slice_get}
use Rattle.lpt_packet.specs.Numbers.{IsOctets}
use Rattle.lpt_pus.specs.declared.failure_code.FailureCode.{FailureCode}
use Rattle.lpt_pus.specs.Numbers.{long_at}
use Rattle.lpt_memory.specs.Meanings.{Meaning, Silent, Fault, Load, Dump, Check, meaning}
use Rattle.lpt_memory.specs.Memories.{Contents, sizes_of}
use Rattle.lpt_memory.specs.declared.request.AreaRange.{AreaRange}
use Rattle.lpt_memory.specs.declared.reply_kind.ReplyKind.TheVariants as reply
use Rattle.lpt_memory.specs.Effects.{answer, dump_body, check_body}
use Rattle.lpt_verify.specs.declared.report.Report.{Report as Verification}
use Rattle.lpt_verify.specs.Reading.{report_in}
use Rattle.lpt_events.specs.Configs.{IsConfig}
use Rattle.lpt_events.specs.declared.config.Config.{Config}
use Rattle.lpt_events.specs.declared.entry.Release.{Release}
use Rattle.lpt_acts.specs.Acts.{Leaving, Execute, Refuse, Drop, ending_by, Act}
use Rattle.lpt_events.specs.declared.telemetry.TelemetryKind.TheVariants as kind
use Rattle.lpt_events.specs.TelemetryKinds.{subtype_of}
use Rattle.lpt_execution.specs.declared.ending.Ending.{Ending}
use Rattle.lpt_execution.specs.declared.ending.Ending.TheVariants.{Refused, Carried, Silent as Untold}
use Rattle.lpt_execution.specs.declared.ending.Report.{Report}
use Rattle.lpt_execution.specs.Endings.{reply_fault, reply_ending, ending}
use Rattle.lpt_journal.specs.Executions.{effect_of}
use Rattle.lpt_journal.specs.Jobs.{memories}
use Rattle.lpt_journal.specs.Journal.{SentPacket, History}
use Rattle.lpt_journal.specs.Legal.{Legal}
use Rattle.lpt_journal.specs.Link.{sent}
use Rattle.lpt_journal.specs.Replies.{history_after}
use Rattle.lpt_journal.proofs.HeadlineLemmas.{every}
use Rattle.lpt_journal.proofs.UpOctets.{AreUpOctets, up_octets_start}
use Rattle.lpt_passes.specs.Reported.{HasLeft, WasExecuted, WasDumped, IsVerification, IsReportOf, ReportsAreOfExecutions, OpenedReportsAreOfExecutions, CompletedWasExecuted, FailedChangedNothing, DumpedIsMemory, OpenedDumpIsMemory}
use Rattle.lpt_passes.proofs.ReportLemmas.{at_place}
use Rattle.lpt_passes.proofs.SaidLemmas.{Tells, IsTold, IsOfData, IsTheData, message_told, message_data, of_data_only}
use Rattle.lpt_passes.proofs.HereLemmas.{all_reported, fault_leaves}
use Rattle.lpt_passes.proofs.OpenedLemmas.{all_opened}

-- ---- the laws

pub reports_are_of_executions : ReportsAreOfExecutions
reports_are_of_executions c first es n p to service subtype body good legal f is differs =
    all_reported c first es n p to service subtype body good legal f (ne_eqb service 13 differs) is

-- what goes up in the front of a journal is octets
front_octets : (c : Config) (first : Contents) (es : List Act)
    → IsConfig c
    → Legal c first es
    → (n : ℕ)
    → AreUpOctets c (drop n (history_after c first es))
front_octets c first es good legal zero = (every c first es good legal).2
front_octets c first [] good legal (suc n) = up_octets_start c
front_octets c first (e ∷ es) good legal (suc n) = front_octets c first es good legal.0 n

-- the first four octets are a number of 32 bits
long_small : (m : List ℕ) → IsOctets m → long_at m 0 < 2 ^ 32
long_small m o = omega (arith, o 0, o 1, o 2, o 3)

of_data_by : (how : Leaving) (end : Ending) → IsOfData end → IsOfData (ending_by how end)
of_data_by Execute end of = of
of_data_by (Refuse code) end of = tt
of_data_by Drop end of = tt

-- the request that a verification report tells of
told : (c : Config) (first : Contents) (es : List Act) (n : ℕ) (p : SentPacket) (to subtype : ℕ)
    (said : Verification)
    → IsConfig c
    → Legal c first es
    → slice_get (sent (history_after c first es)) n ≡ Some p
    → (is : IsVerification c p to subtype said)
    → (it : IsReportOf c first (history_after c first es) to 1 subtype is.body)
    × Tells (long_at it.release.message 0) it.end subtype said
told c first es n p to subtype said good legal f is =
    let h = history_after c first es in
    let it = all_reported c first es n p to 1 subtype is.body good legal f refl is.is_down in
    let m = it.release.message in
    let run = it.execution in
    let ms = memories c first (drop (suc run.number) h) in
    let octets = (front_octets c first es good legal (suc run.number)).requests _ it.release
    run.was_oldest in
    let of_six =
    subst (λ end. IsOfData end) run.ended
    (of_data_by it.how _ (of_data_only c.part_size _ _ (effect_of c ms m))) in
    let all = message_told c.apid m it.end (long_small m octets) of_six in
    let tells = at_place (IsTold (long_at m 0) it.end) _ it.number it.report all it.is_report in
    let says : report_in (subtype_of it.report.kind) it.report.body ≡ Some said =
    (λ i. report_in (it.of_subtype i) (it.of_body i)) ∙ is.says in (
      it,
      subst (λ s. Tells (long_at m 0) it.end s said) it.of_subtype (tells said it.of_service says),
    )

-- what was carried out was executed
carried_executed : (c : Config) (first : Contents) (h : History) (how : Leaving) (r : Release)
    (given : Option Report)
    → HasLeft c first h how r (Carried given)
    → WasExecuted c first h r (Carried given)
carried_executed c first h Execute r given it = it
carried_executed c first h (Refuse code) r given it =
    absurd (let no : Refused code ≡ Carried given = it.ended in cc)
carried_executed c first h Drop r given it =
    absurd (let no : Untold ≡ Carried given = it.ended in cc)

-- what failed or was refused changed nothing
failed_leaves : (c : Config) (first : Contents) (h : History) (how : Leaving) (r : Release)
    (fault : FailureCode) (it : HasLeft c first h how r (Refused fault))
    → memories c first (drop it.number h) ≡ memories c first (drop (suc it.number) h)
failed_leaves c first h Execute r fault it =
    let ms = memories c first (drop (suc it.number) h) in
    it.did.left
    ∙ fault_leaves (meaning c.apid (sizes_of ms) r.message) ms c.part_size _ _ fault it.ended
failed_leaves c first h (Refuse code) r fault it = it.did
failed_leaves c first h Drop r fault it = it.did

pub completed_was_executed : CompletedWasExecuted
completed_was_executed c first es n p to subtype said good legal f is success =
    let h = history_after c first es in
    let t = told c first es n p to subtype said good legal f is in
    let it = t.0 in
    let done = t.1.done success in
    record {
      release = it.release;
      answer = done.0;
      execution = carried_executed c first h it.how it.release done.0
          (subst (λ end. HasLeft c first h it.how it.release end) done.1 it.execution);
      of_source = it.of_source;
      is_request = sym t.1.of_request;
    }

pub failed_changed_nothing : FailedChangedNothing
failed_changed_nothing c first es n p to subtype code said good legal f is failure =
    let h = history_after c first es in
    let t = told c first es n p to subtype said good legal f is in
    let it = t.0 in
    let why = t.1.failed code failure in
    let run : HasLeft c first h it.how it.release (Refused why.0) =
    subst (λ end. HasLeft c first h it.how it.release end) why.1 it.execution in
    record {
      release = it.release;
      fault = why.0;
      how = it.how;
      execution = run;
      of_source = it.of_source;
      is_request = sym t.1.of_request;
      of_code = why.2;
      unchanged = failed_leaves c first h it.how it.release why.0 run;
    }

-- ---- dumps

dump_answered : (m : Meaning) (ms : Contents) (p : ℕ) (free room : Bool) (r : Report)
    → subtype_of r.kind ≡ 6
    → ending p free room (answer m ms) ≡ Carried (Some r)
    → (memory : ℕ) × (ranges : List AreaRange) × (m ≡ Dump memory ranges)
    × (r.body ≡ dump_body memory ranges ms)
dump_answered Silent ms p free room r at e = absurd cc
dump_answered (Fault code) ms p free room r at e = absurd cc
dump_answered (Load id areas) ms p free room r at e = absurd cc
dump_answered (Dump id ranges) ms p free room r at e =
    go (reply_fault p (length (dump_body id ranges ms)) free room) e
  where
    go : (f : Option FailureCode)
        → reply_ending f reply.Dump (dump_body id ranges ms) ≡ Carried (Some r)
        → (memory : ℕ) × (ranges2 : List AreaRange) × (Dump id ranges ≡ Dump memory ranges2)
        × (r.body ≡ dump_body memory ranges2 ms)
    go (Some code) k = absurd cc
    go None k =
        let same : record { kind = kind.Dump; body = dump_body id ranges ms } ≡ r = cc in
        (id, ranges, refl, ap (λ (x : Report). x.body) (sym same))
dump_answered (Check id ranges) ms p free room r at e =
    absurd (go (reply_fault p (length (check_body id ranges ms)) free room) e)
  where
    go : (f : Option FailureCode)
        → reply_ending f reply.Check (check_body id ranges ms) ≡ Carried (Some r)
        → ⊥
    go (Some code) k = cc
    go None k =
        let same : record { kind = kind.Check; body = check_body id ranges ms } ≡ r = cc in
        let no : ◌≡◌ {A = ℕ} 10 6 = ap (λ (x : Report). subtype_of x.kind) same ∙ at in
        omega (arith, no)

-- what a report of service 6 and message subtype 6 says of its execution
of_dump : (c : Config) (first : Contents) (h : History) (to : ℕ) (body : List ℕ)
    → IsReportOf c first h to 6 6 body
    → WasDumped c first h to body
of_dump c first h to body it =
    let m = it.release.message in
    let end : it.end ≡ Carried (Some it.report) =
    at_place (IsTheData it.end) _ it.number it.report (message_data c.apid m it.end) it.is_report
    it.of_service in
    let run : WasExecuted c first h it.release (Carried (Some it.report)) =
    carried_executed c first h it.how it.release (Some it.report)
    (subst (λ e. HasLeft c first h it.how it.release e) end it.execution) in
    let ms = memories c first (drop (suc run.number) h) in
    let was = dump_answered (meaning c.apid (sizes_of ms) m) ms c.part_size _ _ it.report
    it.of_subtype run.ended in
    record {
      release = it.release;
      answer = Some it.report;
      execution = run;
      of_source = it.of_source;
      memory = was.0;
      ranges = was.1;
      is_dump = was.2;
      is_body = sym it.of_body ∙ was.3;
    }

pub dumped_is_memory : DumpedIsMemory
dumped_is_memory c first es n p to body good legal f is =
    of_dump c first (history_after c first es) to body
    (all_reported c first es n p to 6 6 body good legal f refl is)

-- ---- reports in parts

pub opened_reports_are_of_executions : OpenedReportsAreOfExecutions
opened_reports_are_of_executions c first es m to service subtype body good legal was is =
    all_opened c first es m to service subtype body good legal was is

pub opened_dump_is_memory : OpenedDumpIsMemory
opened_dump_is_memory c first es m to body good legal was is =
    of_dump c first (history_after c first es) to body
    (all_opened c first es m to 6 6 body good legal was is)
