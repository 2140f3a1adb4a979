-- Of the reports of an execution, one at most is too long for the link: the report of data.
use Rattle.std.proofs.Common.{◌≡◌, ◌∙◌, ap, sym, subst, refl, ℕ, suc, ◌⊎◌, inl, inr, ◌+◌, ◌≤◌, nat_le, Bool, true, false, not, if◌then◌else◌, List, [], ◌∷◌, ◌++◌, length, map, Option, Some, None, is_some, arith, append-nil}
use Rattle.std.specs.List.{filter}
use Rattle.std.specs.Option.{option_map, option_map_or}
use Rattle.std.proofs.lemmas.Bool.Decides.{nat_tests}
use Rattle.std.proofs.lemmas.List.Elements.{filter-append}
use Rattle.std.proofs.lemmas.List.{map-append}
use Rattle.lpt_packet.specs.Names.{Name}
use Rattle.lpt_pus.specs.declared.failure_code.FailureCode.TheVariants.{NoFreeIdentifier, TooManyOpen}
use Rattle.lpt_pus.specs.Codes.{number_of}
use Rattle.lpt_pus.specs.Commands.{Command, command_in}
use Rattle.lpt_pus.specs.Numbers.{long_at}
use Rattle.lpt_verify.specs.declared.report.EncodedReport.{EncodedReport}
use Rattle.lpt_verify.specs.Reports.{asks, success, failure, success_if, reports_before, acceptance_reports, start_reports, completion_reports}
use Rattle.lpt_memory.specs.declared.effect.Effect.{Effect}
use Rattle.lpt_memory.specs.declared.effect.Effect.TheVariants as effect
use Rattle.lpt_acts.specs.Acts.{Leaving, Execute, Refuse, Drop, ending_by}
use Rattle.lpt_events.specs.declared.config.Config.{Config}
use Rattle.lpt_execution.specs.declared.ending.Ending.{Ending}
use Rattle.lpt_execution.specs.declared.ending.Ending.TheVariants.{Silent, Refused, Carried}
use Rattle.lpt_execution.specs.declared.ending.Report.{Report}
use Rattle.lpt_execution.specs.Endings.{is_small, reply_ending, reply_report, ending}
use Rattle.lpt_execution.specs.Reporting.{verification, data_report, reports_of, message_reports, large_packets, opened_of}
use Rattle.lpt_journal.specs.Executions.{report_after, reports_after}
use Rattle.lpt_model.specs.State.{as_list}

module _ (p : ℕ) (fits : 4 ≤ p) where
  -- a report that is too long for the link
  abbrev is_large : Report → Bool
  is_large r = not (is_small p (length r.body))

  -- the reports that are too long
  abbrev too_long : List Report → List Report
  too_long rs = filter is_large rs

  small : (n : ℕ) → n ≤ 6 → not (is_small p n) ≡ false
  small n e = let k : nat_le (n + 19) (p + 23) ≡ true = grind (arith, nat_tests) in ap not k

  -- ---- verification reports

  none_long : (r : Report) → is_large r ≡ false → too_long (r ∷ []) ≡ []
  none_long r e = ap (λ t. if t then r ∷ [] else []) e

  both_short : (xs ys : List EncodedReport)
      → too_long (map verification xs) ≡ []
      → too_long (map verification ys) ≡ []
      → too_long (map verification (xs ++ ys)) ≡ []
  both_short xs ys e f =
      ap too_long (map-append verification xs ys)
      ∙ filter-append is_large (map verification xs) (map verification ys)
      ∙ (λ i. e i ++ f i)

  success_short : (asked : Bool) (request subtype : ℕ)
      → too_long (map verification (success_if asked request subtype)) ≡ []
  success_short true request subtype =
      none_long (verification (success request subtype)) (small 4 (omega arith))
  success_short false request subtype = refl

  failure_short : (request subtype code : ℕ)
      → too_long (map verification (failure request subtype code ∷ [])) ≡ []
  failure_short request subtype code =
      none_long (verification (failure request subtype code)) (small 6 (omega arith))

  before_short : (request flags : ℕ) (code : Option ℕ)
      → too_long (map verification (reports_before request flags code)) ≡ []
  before_short request flags None =
      both_short (acceptance_reports request flags) (start_reports request flags)
      (success_short (asks flags 1) request 1) (success_short (asks flags 2) request 3)
  before_short request flags (Some code) = go (nat_le code 2) where
    go : (t : Bool)
        → too_long
        (map verification
        (if t then failure request 2 code ∷ []
        else acceptance_reports request flags ++ failure request 4 code ∷ []))
        ≡ []
    go true = failure_short request 2 code
    go false =
        both_short (acceptance_reports request flags) (failure request 4 code ∷ [])
        (success_short (asks flags 1) request 1) (failure_short request 4 code)

  -- ---- the report of data

  -- the report of data of a request that ended so
  abbrev data_of : Ending → List Report
  data_of Silent = []
  data_of (Refused code) = []
  data_of (Carried r) = data_report r

  reports_long : (request flags : ℕ) (end : Ending)
      → too_long (reports_of request flags end) ≡ too_long (data_of end)
  reports_long request flags Silent = refl
  reports_long request flags (Refused code) = before_short request flags (Some (number_of code))
  reports_long request flags (Carried r) =
      let before = map verification (reports_before request flags None) in
      filter-append is_large (before ++ data_report r)
      (map verification (completion_reports request flags))
      ∙ ap (λ ns. too_long (before ++ data_report r) ++ ns)
      (success_short (asks flags 8) request 7)
      ∙ append-nil (too_long (before ++ data_report r))
      ∙ filter-append is_large before (data_report r)
      ∙ (λ i. before_short request flags None i ++ too_long (data_report r))

  -- none, or one and there is a free name
  abbrev AtMostOne : Bool → ℕ → Type 0
  AtMostOne free n = (n ≡ 0) ⊎ ((n ≡ 1) × (free ≡ true))

  data_long : (free room : Bool) (a : Effect)
      → AtMostOne free (length (too_long (data_of (ending p free room a))))
  data_long free room effect.Silent = inl refl
  data_long free room (effect.Code code) = inl refl
  data_long free room effect.Done = inl refl
  data_long free room (effect.Reply k body) = go (is_small p (length body)) refl free room where
    report : Report
    report = record { kind = reply_report k; body = body }

    go : (t : Bool)
        → is_small p (length body) ≡ t
        → (free room : Bool)
        → AtMostOne free
        (length
        (too_long
        (data_of
        (reply_ending
        (if t then None
        else if not free then Some NoFreeIdentifier
        else if not room then Some TooManyOpen
        else None)
        k body))))
    go true e free room = inl (ap length (none_long report (ap not e)))
    go false e false room = inl refl
    go false e true false = inl refl
    go false e true true = inr (ap (λ t. length (if not t then report ∷ [] else [])) e, refl)

  -- of one that leaves so
  left_long : (how : Leaving) (free room : Bool) (a : Effect)
      → AtMostOne free (length (too_long (data_of (ending_by how (ending p free room a)))))
  left_long Execute free room a = data_long free room a
  left_long (Refuse code) free room a = inl refl
  left_long Drop free room a = inl refl

  -- of all reports
  message_long : (apid : ℕ) (m : List ℕ) (how : Leaving) (free room : Bool) (a : Effect)
      → AtMostOne free
      (length (too_long (message_reports apid m (ending_by how (ending p free room a)))))
  message_long apid m how free room a = go (command_in apid m) where
    end : Ending
    end = ending_by how (ending p free room a)

    go : (o : Option Command)
        → AtMostOne free
        (length (too_long (option_map_or (λ c. reports_of (long_at m 0) c.flags end) o [])))
    go None = inl refl
    go (Some c) =
        subst (λ (rs : List Report). AtMostOne free (length rs))
        (sym (reports_long (long_at m 0) c.flags end)) (left_long how free room a)

  -- as many packets are too long
  length-large_packets : (c : Config) (peer : ℕ) (ps : List (List ℕ)) (time : ℕ) (rs : List Report)
      → length (large_packets p (reports_after c peer ps time rs)) ≡ length (too_long rs)
  length-large_packets c peer ps time [] = refl
  length-large_packets c peer ps time (r ∷ rs) =
      let b = report_after c peer ps time r in
      go b (is_large r) (reports_after c peer (ps ++ b ∷ []) time rs)
      (length-large_packets c peer (ps ++ b ∷ []) time rs) where
        go : (b : List ℕ) (t : Bool) (all : List (Report × List ℕ))
            → length (large_packets p all) ≡ length (too_long rs)
            → length
            (map (λ x. x.1)
            (if t then (r, b) ∷ filter (λ x. not (is_small p (length x.0.body))) all
            else filter (λ x. not (is_small p (length x.0.body))) all))
            ≡ length (if t then r ∷ too_long rs else too_long rs)
        go b true all e = ap suc e
        go b false all e = e

  -- what is opened of them, where there is a free name: all
  opens_all : (free : Option Name) (bs : List (List ℕ))
      → AtMostOne (is_some free) (length bs)
      → as_list (option_map (λ x. x.1) (opened_of free bs)) ≡ bs
  opens_all None [] few = refl
  opens_all (Some name) [] few = refl
  opens_all None (b ∷ bs) (inl none) = absurd (omega (arith, none))
  opens_all None (b ∷ bs) (inr one) = let f : false ≡ true = one.1 in absurd cc
  opens_all (Some name) (b ∷ []) few = refl
  opens_all (Some name) (b ∷ d ∷ bs) (inl none) = absurd (omega (arith, none))
  opens_all (Some name) (b ∷ d ∷ bs) (inr one) = absurd (omega (arith, one.0))

  -- all packets that are too long are opened
  pub large_opened : (c : Config) (peer : ℕ) (ps : List (List ℕ)) (time apid : ℕ) (m : List ℕ)
      (how : Leaving) (free : Option Name) (room : Bool) (a : Effect)
      → let large = large_packets p
      (reports_after c peer ps time
      (message_reports apid m (ending_by how (ending p (is_some free) room a)))) in
      as_list (option_map (λ x. x.1) (opened_of free large)) ≡ large
  large_opened c peer ps time apid m how free room a =
      let rs = message_reports apid m (ending_by how (ending p (is_some free) room a)) in
      opens_all free (large_packets p (reports_after c peer ps time rs))
      (subst (λ (n : ℕ). AtMostOne (is_some free) n) (sym (length-large_packets c peer ps time rs))
      (message_long apid m how (is_some free) room a))
