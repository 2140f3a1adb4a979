-- Each report on the link of a legal journal is of a request that left the queue.
use Rattle.std.proofs.Common.{◌≡◌, ◌∙◌, ap, sym, refl, ℕ, zero, suc, ◌+◌, ◌==◌, nat_lt, Bool, false, inl, inr, List, [], ◌∷◌, ◌++◌, length, map, take, Option, Some, None, arith}
use Rattle.std.proofs.lemmas.List.{map-append}
use Rattle.std.specs.List.{slice_get, AllByRecursion}
use Rattle.std.specs.Option.{is_some, option_map_or}
use Rattle.lpt_packet.specs.declared.direction.Direction.TheVariants.{Up, Down}
use Rattle.lpt_packet.specs.Names.{Name, IsName}
use Rattle.lpt_packet.specs.Numbers.{IsOctets}
use Rattle.lpt_part.specs.declared.reason.Reason.{Reason}
use Rattle.lpt_part.specs.declared.reason.Reason.TheVariants as reason
use Rattle.lpt_pus.specs.declared.failure_code.FailureCode.{FailureCode}
use Rattle.lpt_pus.specs.Telemetry.{Telemetry, telemetry_in}
use Rattle.lpt_memory.specs.Meanings.{Meaning, Silent, Fault, Load, Dump, Check, meaning}
use Rattle.lpt_memory.specs.Memories.{Contents, sizes_of, effect}
use Rattle.lpt_memory.specs.Effects.{answer}
use Rattle.lpt_events.specs.Arrivals.{AReport, AnAbort, NotRead, part_name, arrival_in}
use Rattle.lpt_events.specs.Configs.{IsConfig}
use Rattle.lpt_events.specs.Counts.{AreCounts}
use Rattle.lpt_events.specs.Lanes.{lane_direction}
use Rattle.lpt_events.specs.Sides.{receiver_side, direction_to}
use Rattle.lpt_events.specs.declared.config.Config.{Config}
use Rattle.lpt_events.specs.declared.entry.Release.{Release}
use Rattle.lpt_acts.specs.Acts.{Leaving, Execute, Refuse, Drop, Act, Send, Plain, Damage, Deliver, Expire, Apply}
use Rattle.lpt_events.specs.declared.outcome.Outcome.{Outcome}
use Rattle.lpt_events.specs.declared.outcome.Outcome.TheVariants.{Broken}
use Rattle.lpt_events.specs.declared.side.Side.{Side}
use Rattle.lpt_events.specs.declared.side.Side.TheVariants.{Ground, Craft}
use Rattle.lpt_execution.specs.declared.ending.Ending.{Ending}
use Rattle.lpt_execution.specs.declared.ending.Ending.TheVariants.{Refused}
use Rattle.lpt_execution.specs.declared.ending.Report.{Report}
use Rattle.lpt_execution.specs.Endings.{ending}
use Rattle.lpt_execution.specs.Reporting.{message_reports, request_source, link_packets}
use Rattle.lpt_journal.specs.Delivery.{outcome}
use Rattle.lpt_journal.specs.Due.{given_up}
use Rattle.lpt_journal.specs.Executions.{effect_of, ending_of}
use Rattle.lpt_journal.specs.Executions as executions
use Rattle.lpt_journal.specs.Hands.{arrival_of}
use Rattle.lpt_journal.specs.Jobs.{front_job, jobs_applied, executed_now, executed, executed_by, left_by, memories}
use Rattle.lpt_journal.specs.Journal.{SentPacket, Recorded, History, with_all}
use Rattle.lpt_journal.specs.Legal.{IsEnabled, Legal}
use Rattle.lpt_journal.specs.Link.{sent}
use Rattle.lpt_journal.specs.Receivers.{clock, limits}
use Rattle.lpt_journal.specs.Replies.{abort_puts, outcome_puts, expiry_puts, puts, entry, history_after}
use Rattle.lpt_journal.specs.Senders.{least_free, open_count, packets_made, count, type_counter}
use Rattle.lpt_journal.proofs.AnswerLengths.{answer_fits, source_fits}
use Rattle.lpt_journal.proofs.Deliveries.{broken_named}
use Rattle.lpt_journal.proofs.Events.{only_element}
use Rattle.lpt_journal.proofs.HeadlineLemmas.{owes, every, delivered}
use Rattle.lpt_journal.proofs.SentParts.{abort_arrives}
use Rattle.lpt_journal.proofs.SentReports.{message_sendable, ending_fits}
use Rattle.lpt_journal.proofs.Steps.{IsSound}
use Rattle.lpt_journal.proofs.TestLemmas.{IsOldOrNew, with_all_cases, get-with_all, get-behind, no_place}
use Rattle.lpt_journal.proofs.TimeEvents.{given_up_named}
use Rattle.lpt_journal.proofs.UpOctets.{AreUpOctets}
use Rattle.lpt_journal.proofs.WorkEvents.{ending_by_fits}
use Rattle.lpt_passes.specs.Reported.{Did, HasLeft, IsTelemetryDown, IsReportOf}
use Rattle.lpt_passes.proofs.ReportLemmas.{telemetry_reports, IsReadWith, all_read, on_link, IsOneOf, each_is_one, take_front, take_with_all}

-- ---- what an execution leaves

-- the last of these is executed over what those before it leave
left_last : (apid : ℕ) (xs : List (List ℕ)) (m : List ℕ) (ms : Contents)
    → left_by apid (xs ++ m ∷ []) ms
    ≡ effect (meaning apid (sizes_of (left_by apid xs ms)) m) (left_by apid xs ms)
left_last apid [] m ms = refl
left_last apid (x ∷ xs) m ms = left_last apid xs m (effect (meaning apid (sizes_of ms) x) ms)

-- the entry of an execution leaves the memories so
executed_leaves : (c : Config) (first : Contents) (x : Recorded) (h : History) (r : Release)
    → executed_by c x h ≡ r ∷ []
    → memories c first (x ∷ h)
    ≡ effect (meaning c.apid (sizes_of (memories c first h)) r.message) (memories c first h)
executed_leaves c first x h r one =
    let done : List Release = executed c h in
    let messages : List Release → List (List ℕ) = map (λ r. r.message) in
    ap (λ rs. left_by c.apid (messages (with_all done rs)) first) one
    ∙ ap (λ ms. left_by c.apid ms first) (map-append (λ (r : Release). r.message) done (r ∷ []))
    ∙ left_last c.apid (messages done) r.message first

-- ---- what failed changed nothing

pub fault_leaves : (m : Meaning) (ms : Contents) (p : ℕ) (free room : Bool) (fault : FailureCode)
    → ending p free room (answer m ms) ≡ Refused fault
    → effect m ms ≡ ms
fault_leaves Silent ms p free room fault e = refl
fault_leaves (Fault code) ms p free room fault e = refl
fault_leaves (Load id areas) ms p free room fault e = absurd cc
fault_leaves (Dump id ranges) ms p free room fault e = refl
fault_leaves (Check id ranges) ms p free room fault e = refl

-- ---- what a report on the link is of

-- what was done was so after an entry
did_later : (c : Config) (first : Contents) (h : History) (x : Recorded) (n : ℕ) (r : Release)
    (how : Leaving)
    → Did c first h n r how
    → Did c first (x ∷ h) (suc n) r how
did_later c first h x n r Execute a = record {
  place = a.place;
  is_executed = get-with_all (executed c h) (executed_by c x h) a.place r a.is_executed;
  so_far =
      a.so_far ∙ sym (take_with_all (executed c h) (executed_by c x h) a.place r a.is_executed);
  left = a.left;
}
did_later c first h x n r (Refuse code) a = a
did_later c first h x n r Drop a = a

-- and what left had left
left_later : (c : Config) (first : Contents) (h : History) (x : Recorded) (how : Leaving)
    (r : Release) (end : Ending)
    → HasLeft c first h how r end
    → HasLeft c first (x ∷ h) how r end
left_later c first h x how r end a = record {
  number = suc a.number;
  entry = a.entry;
  is_there = a.is_there;
  applies = a.applies;
  was_oldest = a.was_oldest;
  ended = a.ended;
  did = did_later c first h x a.number r how a.did;
}

pub report_later : (c : Config) (first : Contents) (h : History) (x : Recorded)
    (to service subtype : ℕ)
    (body : List ℕ)
    → IsReportOf c first h to service subtype body
    → IsReportOf c first (x ∷ h) to service subtype body
report_later c first h x to service subtype body a = record {
  release = a.release;
  end = a.end;
  how = a.how;
  execution = left_later c first h x a.how a.release a.end a.execution;
  number = a.number;
  report = a.report;
  is_report = a.is_report;
  of_source = a.of_source;
  of_service = a.of_service;
  of_subtype = a.of_subtype;
  of_body = a.of_body;
}

-- the oldest request leaves now
did_here : (c : Config) (first : Contents) (h : History) (r : Release) (how : Leaving)
    → front_job c h ≡ Some r
    → Did c first (entry c first h (Apply how) ∷ h) 0 r how
did_here c first h r (Refuse code) e = refl
did_here c first h r Drop e = refl
did_here c first h r Execute e =
    let x = entry c first h (Apply Execute) in
    let one : executed_by c x h ≡ r ∷ [] = ap (executed_now (Apply Execute)) e in
    record {
      place = length (executed c h) + 0;
      is_executed =
          ap (λ rs. slice_get (with_all (executed c h) rs) (length (executed c h) + 0)) one
          ∙ get-behind (executed c h) (r ∷ []) 0 r refl;
      so_far =
          sym (
          ap (λ rs. take (length (executed c h) + 0) (with_all (executed c h) rs)) one
          ∙ take_front (executed c h) (r ∷ []));
      left = executed_leaves c first x h r one;
    }

left_here : (c : Config) (first : Contents) (h : History) (r : Release) (how : Leaving)
    → front_job c h ≡ Some r
    → HasLeft c first (entry c first h (Apply how) ∷ h) how r (ending_of c first h how r.message)
left_here c first h r how e = record {
  number = 0;
  entry = entry c first h (Apply how);
  is_there = refl;
  applies = refl;
  was_oldest = e;
  ended = refl;
  did = did_here c first h r how e;
}

-- ---- the reports of a request

-- what is read of one of the oldest request's reports is read of its leaving
pub report_here : (c : Config) (first : Contents) (h : History) (r : Release) (how : Leaving)
    (p : SentPacket)
    (to service subtype : ℕ) (body : List ℕ)
    → IsTelemetryDown c p to service subtype body
    → front_job c h ≡ Some r
    → (x : Report × List ℕ)
    → IsReadWith c (request_source c.apid r.message)
    (IsOneOf (message_reports c.apid r.message (ending_of c first h how r.message))) x
    → p.octets ≡ x.1
    → IsReportOf c first (entry c first h (Apply how) ∷ h) to service subtype body
report_here c first h r how p to service subtype body is e x read same =
    let t = is.telemetry in
    let u = read.1 in
    let one : u.telemetry ≡ t =
    let both : Some u.telemetry ≡ Some t =
    sym u.is_read ∙ ap (λ b. telemetry_in c.apid b) (sym same) ∙ is.is_read in cc in
    record {
      release = r;
      end = ending_of c first h how r.message;
      how = how;
      execution = left_here c first h r how e;
      number = read.0.0;
      report = x.0;
      is_report = read.0.1;
      of_source = sym u.goes_to ∙ ap (λ (v : Telemetry). v.destination) one ∙ is.goes_to;
      of_service = sym u.of_service ∙ ap (λ (v : Telemetry). v.service) one ∙ is.of_service;
      of_subtype = sym u.of_subtype ∙ ap (λ (v : Telemetry). v.subtype) one ∙ is.of_subtype;
      of_body = sym u.of_body ∙ ap (λ (v : Telemetry). v.body) one ∙ is.of_body;
    }

-- the packets that the spacecraft makes of them are read as they are
pub packets_here : (c : Config) (first : Contents) (h : History) (r : Release) (how : Leaving)
    → IsConfig c
    → IsSound c h
    → AreUpOctets c h
    → front_job c h ≡ Some r
    → AllByRecursion (IsReadWith c (request_source c.apid r.message)
    (IsOneOf (message_reports c.apid r.message (ending_of c first h how r.message))))
    (executions.reports_after c (request_source c.apid r.message) (packets_made h Down)
    (clock c h Craft)
    (message_reports c.apid r.message (ending_of c first h how r.message)))
packets_here c first h r how good sound up e =
    let m = r.message in
    let octets : IsOctets m = up.requests (jobs_applied h) r e in
    let reports = message_reports c.apid m (ending_of c first h how m) in
    let free = is_some (least_free h Down (request_source c.apid m)) in
    let room = nat_lt (open_count h Down) (limits c h Craft).outgoing in
    all_read c (IsOneOf reports) (request_source c.apid m)
    (packets_made h Down) (clock c h Craft) reports
    good (source_fits c.apid m octets) (sound.clocks Craft)
    (message_sendable c.apid m (ending_of c first h how m)
    (ending_by_fits how _
    (ending_fits c.part_size free room (effect_of c (memories c first h) m)
    (answer_fits c.apid (memories c first h) m octets))))
    (each_is_one reports)

reports_here : (c : Config) (first : Contents) (h : History) (how : Leaving) (k : ℕ)
    (p : SentPacket) (to service subtype : ℕ) (body : List ℕ)
    → IsConfig c
    → IsSound c h
    → AreUpOctets c h
    → slice_get (executions.front_puts c first h how) k ≡ Some p
    → IsTelemetryDown c p to service subtype body
    → IsReportOf c first (entry c first h (Apply how) ∷ h) to service subtype body
reports_here c first h how k p to service subtype body good sound up f is =
    go (front_job c h) refl f where
      go : (o : Option Release)
          → front_job c h ≡ o
          → slice_get (map (λ b. record { direction = Down; octets = b })
          (link_packets c.part_size (executions.reports_after c
          (option_map_or (λ (r : Release). request_source c.apid r.message) o 0)
          (packets_made h Down)
          (clock c h Craft)
          (option_map_or (λ (r : Release). message_reports c.apid r.message
          (ending_of c first h how r.message)) o [])))) k ≡ Some p
          → IsReportOf c first (entry c first h (Apply how) ∷ h) to service subtype body
      go None e f = absurd (no_place k p f)
      go (Some r) e f =
          let m = r.message in
          let reports = message_reports c.apid m (ending_of c first h how m) in
          let xs =
          executions.reports_after c (request_source c.apid m) (packets_made h Down)
          (clock c h Craft) reports in
          let it = on_link
          (IsReadWith c (request_source c.apid m) (IsOneOf reports)) c.part_size xs
          (packets_here c first h r how good sound up e) k p f in
          report_here c first h r how p to service subtype body is e it.0 it.1 it.2

-- ---- each event

arrives : (c : Config) (p : SentPacket) (to service subtype : ℕ) (body : List ℕ)
    → (service == 13) ≡ false
    → IsTelemetryDown c p to service subtype body
    → arrival_of c p ≡ AReport service subtype
arrives c p to service subtype body other d =
    ap (λ way. arrival_in c way p.octets) d.goes_down
    ∙ telemetry_reports c p.octets d.telemetry d.is_read (ap (λ n. n == 13) d.of_service ∙ other)
    ∙ (λ i. AReport (d.of_service i) (d.of_subtype i))

no_abort : (c : Config) (h : History) (side : Side) (name : Name) (why : Reason) (k : ℕ)
    (p : SentPacket) (to service subtype : ℕ) (body : List ℕ)
    → IsConfig c
    → IsSound c h
    → IsName name
    → slice_get (abort_puts c h side name why) k ≡ Some p
    → (service == 13) ≡ false
    → IsTelemetryDown c p to service subtype body
    → ⊥
no_abort c h Ground name why k p to service subtype body good sound named f other is =
    no_place k p f
no_abort c h Craft name why k p to service subtype body good sound named f other is =
    let counter = type_counter h 13 16 in
    let counts : AreCounts (count h Down) counter (clock c h Craft) =
    record {
      count_fits = omega arith;
      counter_fits = omega arith;
      time_fits = sound.clocks Craft;
    } in
    let it = abort_arrives c (count h Down) counter (clock c h Craft) name why good counts
    named.source_fits in
    let same = only_element _ k p f in
    let no : AnAbort it.0 why ≡ AReport service subtype =
    sym it.1 ∙ ap (λ (x : SentPacket). arrival_of c x) same
    ∙ arrives c p to service subtype body other is in
    cc

put_here : (c : Config) (first : Contents) (h : History) (e : Act)
    → IsConfig c
    → IsSound c h
    → AreUpOctets c h
    → IsEnabled c h e
    → (k : ℕ) (p : SentPacket) (to service subtype : ℕ) (body : List ℕ)
    → (service == 13) ≡ false
    → slice_get (puts c first h e) k ≡ Some p
    → IsTelemetryDown c p to service subtype body
    → IsReportOf c first (entry c first h e ∷ h) to service subtype body
put_here c first h (Apply how) good sound up can k p to service subtype body other f is =
    reports_here c first h how k p to service subtype body good sound up f is
put_here c first h (Send d name n) good sound up can k p to service subtype body other f is =
    absurd (let pays = owes c first h (Send d name n) good sound up can in
    let no : None ≡ Some name =
    ap part_name (sym (arrives c p to service subtype body other is))
    ∙ (pays.puts k p f).name in cc)
put_here c first h (Damage d b) good sound up can k p to service subtype body other f is =
    absurd (let pays = owes c first h (Damage d b) good sound up can in
    let no : NotRead ≡ AReport service subtype =
    sym (pays.puts k p f).sound ∙ arrives c p to service subtype body other is in cc)
put_here c first h
    (Plain source flags served sub asked) good sound up can k p to service subtype body other f is =
    absurd (let up : Up ≡ Down =
    ap (λ (x : SentPacket). x.direction) (only_element _ k p f) ∙ is.goes_down in cc)
put_here c first h (Deliver l) good sound up can k p to service subtype body other f is =
    let n = delivered c h l can.accepted in
    absurd (go (outcome c h l) (λ name why e. broken_named c h l n.0 name why sound n.1 e) f)
  where
    go : (o : Outcome)
        → ((name : Name) (why : Reason) → o ≡ Broken name why → IsName name)
        → slice_get (outcome_puts c h (receiver_side (lane_direction l)) o) k ≡ Some p
        → ⊥
    go (Broken name why) named g =
        no_abort c h
        (receiver_side (lane_direction l)) name why k p to service subtype body good sound
        (named name why refl) g other is
    go o named g = no_place k p g
put_here c first h (Expire side which) good sound up can k p to service subtype body other f is =
    absurd (go (given_up c h (direction_to side) which)
    (λ name e. given_up_named c h (direction_to side) which name sound e) f)
  where
    go : (o : Option Name)
        → ((name : Name) → o ≡ Some name → IsName name)
        → slice_get (expiry_puts c h side o) k ≡ Some p
        → ⊥
    go None named g = no_place k p g
    go (Some name) named g =
        no_abort c h side name reason.Expired k p to service subtype body good sound
        (named name refl) g
        other is
put_here c first h e good sound up can k p to service subtype body other f is =
    absurd (no_place k p f)

-- ---- every journal

pub all_reported : (c : Config) (first : Contents) (es : List Act) (n : ℕ) (p : SentPacket)
    (to service subtype : ℕ) (body : List ℕ)
    → IsConfig c
    → Legal c first es
    → slice_get (sent (history_after c first es)) n ≡ Some p
    → (service == 13) ≡ false
    → IsTelemetryDown c p to service subtype body
    → IsReportOf c first (history_after c first es) to service subtype body
all_reported c first [] n p to service subtype body good legal f other is = absurd (no_place n p f)
all_reported c first (e ∷ es) n p to service subtype body good legal f other is =
    let h = history_after c first es in
    go (all_reported c first es n p to service subtype body good legal.0)
    (with_all_cases (sent h) (puts c first h e) n p f)
  where
    go : (slice_get (sent (history_after c first es)) n ≡ Some p
        → (service == 13) ≡ false
        → IsTelemetryDown c p to service subtype body
        → IsReportOf c first (history_after c first es) to service subtype body)
        → IsOldOrNew (sent (history_after c first es)) (puts c first (history_after c first es) e) n
        p
        → IsReportOf c first (history_after c first (e ∷ es)) to service subtype body
    go before (inl old) =
        let h = history_after c first es in
        report_later c first h (entry c first h e) to service subtype body (before old other is)
    go before (inr fresh) =
        let h = history_after c first es in
        let had = every c first es good legal.0 in
        put_here c first h e good had.0 had.2 legal.1 fresh.0 p to service subtype body other
        fresh.2 is
