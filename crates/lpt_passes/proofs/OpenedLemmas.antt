-- What a request opens that leaves, as it is too long for the link, is one of its reports.
use Rattle.std.proofs.Common.{◌≡◌, ◌∙◌, ap, sym, subst, refl, ℕ, zero, suc, List, [], ◌∷◌, length, Option, Some, None}
use Rattle.std.specs.List.{slice_get}
use Rattle.std.specs.Option.{option_map_or}
use Rattle.lpt_packet.specs.declared.direction.Direction.TheVariants.{Down}
use Rattle.lpt_packet.specs.Names.{Name}
use Rattle.lpt_memory.specs.Memories.{Contents}
use Rattle.lpt_events.specs.Configs.{IsConfig}
use Rattle.lpt_events.specs.declared.config.Config.{Config}
use Rattle.lpt_events.specs.declared.entry.Opening.{Opening}
use Rattle.lpt_events.specs.declared.entry.Release.{Release}
use Rattle.lpt_acts.specs.Acts.{Leaving, Act, Apply}
use Rattle.lpt_events.specs.declared.side.Side.TheVariants.{Craft}
use Rattle.lpt_execution.specs.Reporting.{message_reports, request_source, large_packets, opened_of}
use Rattle.lpt_journal.specs.Executions.{effect_of, ending_of}
use Rattle.lpt_journal.specs.Executions as executions
use Rattle.lpt_journal.specs.Jobs.{front_job}
use Rattle.lpt_journal.specs.Journal.{Recorded, History}
use Rattle.lpt_journal.specs.Legal.{Legal}
use Rattle.lpt_journal.specs.Receivers.{clock}
use Rattle.lpt_journal.specs.Replies.{opens, entry, history_after}
use Rattle.lpt_journal.specs.Senders.{least_free, packets_made}
use Rattle.lpt_journal.proofs.Events.{only_element}
use Rattle.lpt_journal.proofs.HeadlineLemmas.{every}
use Rattle.lpt_journal.proofs.Steps.{IsSound}
use Rattle.lpt_journal.proofs.TestLemmas.{no_place}
use Rattle.lpt_journal.proofs.UpOctets.{AreUpOctets}
use Rattle.lpt_passes.specs.Reported.{WasOpened, IsTelemetryDown, IsReportOf}
use Rattle.lpt_passes.proofs.ReportLemmas.{IsReadWith, too_long, IsOneOf}
use Rattle.lpt_passes.proofs.HereLemmas.{report_later, report_here, packets_here}

-- what is read of a report that is opened is read of its execution
opened_here : (c : Config) (first : Contents) (h : History) (how : Leaving) (k : ℕ) (o : Opening)
    (to service subtype : ℕ) (body : List ℕ)
    → IsConfig c
    → IsSound c h
    → AreUpOctets c h
    → slice_get (executions.front_opens c first h how) k ≡ Some o
    → IsTelemetryDown c (record { direction = Down; octets = o.message }) to service subtype body
    → IsReportOf c first (entry c first h (Apply how) ∷ h) to service subtype body
opened_here c first h how k o to service subtype body good sound up f is =
    of_opened (executions.front_opened c first h how) refl f where
      of_report : (front : Option Release)
          → front_job c h ≡ front
          → (y : Name × List ℕ)
          → y.1 ≡ o.message
          → opened_of (least_free h Down
          (option_map_or (λ (r : Release). request_source c.apid r.message) front 0))
          (large_packets c.part_size (executions.reports_after c
          (option_map_or (λ (r : Release). request_source c.apid r.message) front 0)
          (packets_made h Down)
          (clock c h Craft)
          (option_map_or (λ (r : Release). message_reports c.apid r.message
          (ending_of c first h how r.message)) front []))) ≡ Some y
          → IsReportOf c first (entry c first h (Apply how) ∷ h) to service subtype body
      of_report None e y same g = absurd (none_of (least_free h Down 0) g) where
        none_of : (free : Option Name) → opened_of free [] ≡ Some y → ⊥
        none_of None k = cc
        none_of (Some name) k = cc
      of_report (Some r) e y same g =
          let m = r.message in
          let reports = message_reports c.apid m (ending_of c first h how m) in
          let xs =
          executions.reports_after c (request_source c.apid m) (packets_made h Down)
          (clock c h Craft) reports in
          let it = too_long
          (IsReadWith c (request_source c.apid m) (IsOneOf reports)) c.part_size xs
          (packets_here c first h r how good sound up e)
          (least_free h Down (request_source c.apid m)) y g in
          report_here c first h r how (record { direction = Down; octets = o.message }) to service
          subtype body is e it.0 it.1 (sym same ∙ it.2)

      of_opened : (opened : Option (Name × List ℕ))
          → executions.front_opened c first h how ≡ opened
          → slice_get (executions.opened_down (length h) opened) k ≡ Some o
          → IsReportOf c first (entry c first h (Apply how) ∷ h) to service subtype body
      of_opened None e f = absurd (no_place k o f)
      of_opened (Some y) e f =
          of_report (front_job c h) refl y
          (ap (λ (x : Opening). x.message) (only_element _ k o f)) e

-- each that a journal opened
pub all_opened : (c : Config) (first : Contents) (es : List Act) (m : List ℕ)
    (to service subtype : ℕ) (body : List ℕ)
    → IsConfig c
    → Legal c first es
    → WasOpened c first es m
    → IsTelemetryDown c (record { direction = Down; octets = m }) to service subtype body
    → IsReportOf c first (history_after c first es) to service subtype body
all_opened c first [] m to service subtype body good legal was is =
    absurd (no_place was.number was.entry was.is_there)
all_opened c first (e ∷ es) m to service subtype body good legal was is =
    go was.number was.is_there (all_opened c first es m to service subtype body good legal.0)
  where
    here : (e : Act)
        → e ≡ Apply was.how
        → slice_get (opens c first (history_after c first es) e) was.place ≡ Some was.opening
        → IsReportOf c first (entry c first (history_after c first es) e ∷ history_after c first es)
        to
        service subtype body
    here (Apply how) same f =
        let had = every c first es good legal.0 in
        opened_here c first (history_after c first es) how was.place was.opening to service subtype
        body good had.0 had.2 f
        (subst (λ b. IsTelemetryDown c (record { direction = Down; octets = b }) to service subtype
        body) (sym was.is) is)
    here e same f = absurd cc

    go : (n : ℕ)
        → slice_get (history_after c first (e ∷ es)) n ≡ Some was.entry
        → (WasOpened c first es m
        → IsTelemetryDown c (record { direction = Down; octets = m }) to service subtype body
        → IsReportOf c first (history_after c first es) to service subtype body)
        → IsReportOf c first (history_after c first (e ∷ es)) to service subtype body
    go zero f before =
        let same : entry c first (history_after c first es) e ≡ was.entry = cc in
        here e (ap (λ (x : Recorded). x.event) same ∙ was.applies)
        (ap (λ (x : Recorded). slice_get x.opens was.place) same ∙ was.opens)
    go (suc n) f before =
        report_later c first (history_after c first es) (entry c first (history_after c first es) e)
        to
        service subtype body
        (before (record {
          number = n;
          entry = was.entry;
          is_there = f;
          how = was.how;
          applies = was.applies;
          place = was.place;
          opening = was.opening;
          opens = was.opens;
          is = was.is;
        }) is)
