-- When a request is done by what is sent on it.
use Rattle.std.proofs.Common.{◌≡◌, ◌∙◌, ap, sym, refl, ℕ, ◌<◌, ◌^◌, nat_le, Bool, true, false, if◌then◌else◌, List, [], ◌∷◌, ◌++◌, map, Option, Some, None, IfSome, append-nil}
use Rattle.std.specs.Prelude.{not, is_some, ◌&&◌, ◌||◌}
use Rattle.std.specs.List.{filter_map}
use Rattle.std.specs.Option.{option_map}
use Rattle.std.proofs.lemmas.List.Elements.{filter_map-append}
use Rattle.lpt_packet.specs.Numbers.{be}
use Rattle.lpt_verify.specs.declared.report.EncodedReport.{EncodedReport}
use Rattle.lpt_verify.specs.declared.report.Report.{Report}
use Rattle.lpt_verify.specs.Reading.{is_failure, is_success}
use Rattle.lpt_verify.specs.Reports.{asks, failure, success, success_if}
use Rattle.lpt_verify.proofs.ReadingLemmas.{IsReport-read}
use Rattle.lpt_requests.specs.declared.notice.FailureNotice.{FailureNotice}
use Rattle.lpt_requests.specs.Failures.{notice_of}
use Rattle.lpt_requests.specs.declared.reading_failures.RequestReport.{RequestReport}
use Rattle.lpt_requests.proofs.FailureLemmas.{own-read}
use Rattle.lpt_outcomes.specs.declared.asked.Asked.{Asked}
use Rattle.lpt_outcomes.specs.declared.news.ReportNews.{ReportNews}
use Rattle.lpt_outcomes.specs.declared.outcome.Outcome.{Outcome}
use Rattle.lpt_outcomes.specs.Keys.{key_of}
use Rattle.lpt_outcomes.specs.Requests.{nothing_told}
use Rattle.lpt_outcomes.specs.Reports.{all_heard, news_heard, news, told_by}
use Rattle.lpt_outcomes.specs.Done.{requests_answered, has_last, asks_of_execution, is_done, news_sent}
use Rattle.lpt_outcomes.proofs.KeyLemmas.{same-self}

-- ---- one report

-- a report on a request, read
abbrev on : ℕ → Option FailureNotice → RequestReport
on id failure = record { request = record { value = id }; failure = failure }

-- the same in this project's form
abbrev own_on : ℕ → Option ℕ → Report
own_on id code = record { request = record { value = id }; code = code }

success-told : (to id k : ℕ) → id < 2 ^ 32 → is_success k ≡ true
    → news_sent to (success id k) ≡ Some (news to k (on id None))
success-told to id k fits coded =
    ap (option_map (news to k)) (own-read k (be id 4) (own_on id None)
    (IsReport-read k (be id 4) (own_on id None) (record {
      is_coded = coded;
      request_fits = fits;
      code_fits = tt;
      spelled = sym (append-nil (be id 4));
    })))

failure-told : (to id k code : ℕ) → id < 2 ^ 32 → code < 2 ^ 16 → is_failure k ≡ true
    → news_sent to (failure id k code) ≡ Some (news to k (on id (Some (notice_of k code))))
failure-told to id k code fits code_fits coded =
    ap (option_map (news to k))
    (own-read k (be id 4 ++ be code 2) (own_on id (Some code))
    (IsReport-read k (be id 4 ++ be code 2) (own_on id (Some code)) (record {
      is_coded = coded;
      request_fits = fits;
      code_fits = code_fits;
      spelled = refl;
    })))

-- what a request becomes by it
own : (a : Asked) (k : ℕ) (failure : Option FailureNotice)
    → news_heard (news a.source k (on a.request.value failure)) a
    ≡ record a { outcome = told_by a.outcome k failure }
own a k failure = rw (same-self (key_of a)) refl

-- ---- reports one after the other

heard-append : (requests : List Asked) (ns ms : List ReportNews)
    → all_heard requests (ns ++ ms) ≡ all_heard (all_heard requests ns) ms
heard-append requests [] ms = refl
heard-append requests (n ∷ ns) ms = heard-append (map (news_heard n) requests) ns ms

-- what requests become by reports that are sent to a destination
abbrev sent : (to : ℕ) → List Asked → List EncodedReport → List Asked
sent to requests es = all_heard requests (filter_map (news_sent to) es)

sent-append : (to : ℕ) (requests : List Asked) (es fs : List EncodedReport)
    → sent to requests (es ++ fs) ≡ sent to (sent to requests es) fs
sent-append to requests es fs =
    ap (all_heard requests) (filter_map-append (news_sent to) es fs)
    ∙ heard-append requests (filter_map (news_sent to) es) (filter_map (news_sent to) fs)

-- a success that may be asked for
by_success : (a : Asked) (x : Bool) (k : ℕ) → a.request.value < 2 ^ 32 → is_success k ≡ true
    → sent a.source (a ∷ []) (success_if x a.request.value k)
    ≡ (record a { outcome = (if x then told_by a.outcome k None else a.outcome) }) ∷ []
by_success a false k fits coded = refl
by_success a true k fits coded =
    rw (success-told a.source a.request.value k fits coded) (ap (λ b. b ∷ []) (own a k None))

-- and a failure
by_failure : (a : Asked) (k code : ℕ) → a.request.value < 2 ^ 32 → code < 2 ^ 16
    → is_failure k ≡ true
    → sent a.source (a ∷ []) (failure a.request.value k code ∷ [])
    ≡ (record a { outcome = told_by a.outcome k (Some (notice_of k code)) }) ∷ []
by_failure a k code fits code_fits coded =
    rw (failure-told a.source a.request.value k code fits code_fits coded)
    (ap (λ b. b ∷ []) (own a k (Some (notice_of k code))))

-- ---- all reports

-- what is told by the successes that are asked for
abbrev all_told : (x y z : Bool) → Outcome
all_told x y z = record { accepted = x; started = y; completed = z; failure = None }

-- the last of those is among them, where any is asked for
last_told : (x y z : Bool)
    → (if z then (all_told x y z).completed
    else if y then (all_told x y z).started
    else x && (all_told x y z).completed)
    ≡ (y || z)
last_told true true true = refl
last_told true true false = refl
last_told true false true = refl
last_told true false false = refl
last_told false true true = refl
last_told false true false = refl
last_told false false true = refl
last_told false false false = refl

told_is : (x y z : Bool)
    → (let one = if x then told_by nothing_told 1 None else nothing_told in
    let two = if y then told_by one 3 None else one in
    if z then told_by two 7 None else two)
    ≡ all_told x y z
told_is true true true = refl
told_is true true false = refl
told_is true false true = refl
told_is true false false = refl
told_is false true true = refl
told_is false true false = refl
told_is false false true = refl
told_is false false false = refl

-- of a request that was carried out
carried_out : (a : Asked) → a.request.value < 2 ^ 32 → a.outcome ≡ nothing_told
    → map is_done (requests_answered a.source a.request.value a.flags None (a ∷ []))
    ≡ asks_of_execution a.flags ∷ []
carried_out a fits before =
    let s = a.source in
    let v = a.request.value in
    let x = asks a.flags 1 in
    let y = asks a.flags 2 in
    let z = asks a.flags 8 in
    let told = λ (o : Outcome) (t : Bool) (k : ℕ). if t then told_by o k None else o in
    let one : Asked = record a { outcome = told a.outcome x 1 } in
    let two : Asked = record a { outcome = told one.outcome y 3 } in
    let three : Asked = record a { outcome = told two.outcome z 7 } in
    let first : sent s (a ∷ []) (success_if x v 1) ≡ one ∷ [] = by_success a x 1 fits refl in
    let second : sent s (one ∷ []) (success_if y v 3) ≡ two ∷ [] = by_success one y 3 fits refl in
    let third : sent s (two ∷ []) (success_if z v 7) ≡ three ∷ [] = by_success two z 7 fits refl in
    let all : requests_answered s v a.flags None (a ∷ []) ≡ three ∷ [] =
    sent-append s (a ∷ []) (success_if x v 1 ++ success_if y v 3) (success_if z v 7)
    ∙ ap (λ rs. sent s rs (success_if z v 7))
    (sent-append s (a ∷ []) (success_if x v 1) (success_if y v 3))
    ∙ ap (λ rs. sent s (sent s rs (success_if y v 3)) (success_if z v 7)) first
    ∙ ap (λ rs. sent s rs (success_if z v 7)) second ∙ third in
    let is : three.outcome ≡ all_told x y z =
    ap (λ (o : Outcome). told (told (told o x 1) y 3) z 7) before ∙ told_is x y z in
    ap (map is_done) all
    ∙ ap (λ (o : Outcome). (not (is_some o.failure) && has_last a.flags o) ∷ []) is
    ∙ ap (λ b. b ∷ []) (last_told x y z)

-- a failure isn't done
undone : (a : Asked) (k code : ℕ) → a.outcome.failure ≡ None
    → is_done (record a { outcome = told_by a.outcome k (Some (notice_of k code)) }) ≡ false
undone a k code none = rw none refl

-- a success tells of none
none_yet : (o : Outcome) (x : Bool) → o.failure ≡ None
    → (if x then told_by o 1 None else o).failure ≡ None
none_yet o true h = h
none_yet o false h = h

-- of a request that failed
failed : (a : Asked) (code : ℕ) → a.request.value < 2 ^ 32 → code < 2 ^ 16
    → a.outcome ≡ nothing_told
    → map is_done (requests_answered a.source a.request.value a.flags (Some code) (a ∷ [])) ≡ false
    ∷ []
failed a code fits code_fits before = go (nat_le code 2) where
  none : a.outcome.failure ≡ None
  none = ap (λ (o : Outcome). o.failure) before

  s : ℕ
  s = a.source

  v : ℕ
  v = a.request.value

  go : (early : Bool)
      → map is_done (sent s (a ∷ [])
      ((if early then failure v 2 code ∷ []
      else success_if (asks a.flags 1) v 1 ++ failure v 4 code ∷ []) ++ []))
      ≡ false ∷ []
  go true =
      ap (map is_done) (by_failure a 2 code fits code_fits refl)
      ∙ ap (λ b. b ∷ []) (undone a 2 code none)
  go false =
      let x = asks a.flags 1 in
      let first : Outcome = if x then told_by a.outcome 1 None else a.outcome in
      let one : Asked = record a { outcome = first } in
      ap (λ es. map is_done (sent s (a ∷ []) es))
      (append-nil (success_if x v 1 ++ failure v 4 code ∷ []))
      ∙ ap (map is_done) (sent-append s (a ∷ []) (success_if x v 1) (failure v 4 code ∷ []))
      ∙ ap (λ rs. map is_done (sent s rs (failure v 4 code ∷ []))) (by_success a x 1 fits refl)
      ∙ ap (map is_done) (by_failure one 4 code fits code_fits refl)
      ∙ ap (λ b. b ∷ []) (undone one 4 code (none_yet a.outcome x none))

pub answered-done : (a : Asked) (code : Option ℕ)
    → a.request.value < 2 ^ 32
    → IfSome code (λ c. c < 2 ^ 16)
    → a.outcome ≡ nothing_told
    → map is_done (requests_answered a.source a.request.value a.flags code (a ∷ []))
    ≡ (not (is_some code) && asks_of_execution a.flags) ∷ []
answered-done a None fits code_fits before = carried_out a fits before
answered-done a (Some code) fits code_fits before = failed a code fits code_fits before
