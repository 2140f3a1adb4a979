-- When a request is done.
use Rattle.std.specs.Prelude.{ℕ, ◌&&◌, ◌||◌, ◌<◌, not, is_some, Bool, false, if◌then◌else◌, IsTrue, All, List, length, Option}
use Rattle.std.specs.List.{filter_map}
use Rattle.std.specs.Option.{option_map}
use Rattle.lpt_verify.specs.declared.report.EncodedReport.{EncodedReport}
use Rattle.lpt_requests.specs.Failures.{any_report_in}
use Rattle.lpt_verify.specs.Reports.{all_reports, asks}
use Rattle.lpt_outcomes.specs.declared.asked.Asked.{Asked}
use Rattle.lpt_outcomes.specs.declared.news.ReportNews.{ReportNews}
use Rattle.lpt_outcomes.specs.declared.outcome.Outcome.{Outcome}
use Rattle.lpt_outcomes.specs.declared.passed.Passed.{Passed}
use Rattle.lpt_outcomes.specs.Passing.{is_nothing}
use Rattle.lpt_outcomes.specs.Reports.{all_heard, news}

-- whether acknowledgement flags ask for a report of success: of acceptance, start or completion
abbrev pub is_acknowledged : (flags : ℕ) → Bool
is_acknowledged flags = asks flags 1 || asks flags 2 || asks flags 8

-- whether they ask for a report of the execution itself: of its start or its completion
abbrev pub asks_of_execution : (flags : ℕ) → Bool
asks_of_execution flags = asks flags 2 || asks flags 8

-- whether the last report of success of the execution that they ask for has come: of completion,
-- or of start. If they ask for acceptance alone, a report of completion that nobody asked for says
-- it; if they ask for none, no report does
abbrev pub has_last : (flags : ℕ) → Outcome → Bool
has_last flags o =
    if asks flags 8 then o.completed
    else if asks flags 2 then o.started
    else asks flags 1 && o.completed

-- whether a request didn't fail, and the last that it asks for has come
abbrev pub is_done : Asked → Bool
is_done a = not (is_some a.outcome.failure) && has_last a.flags a.outcome

-- nothing is open: there are requests, each is done, and of both streams nothing was passed over
pub record AreDone (requests : List Asked) (of_requests of_reports : Passed) : Type 0 where
  pub some : 0 < length requests
  pub done : All (λ a. IsTrue (is_done a)) requests
  pub all_read : IsTrue (is_nothing of_requests)
  pub all_heard : IsTrue (is_nothing of_reports)

-- what a report that is sent to this destination tells
abbrev pub news_sent : (destination : ℕ) → EncodedReport → Option ReportNews
news_sent destination e = option_map (news destination e.subtype) (any_report_in e.subtype e.body)

-- requests once all reports have come that are sent on one of this source, this request ID and
-- these flags, which failed with this code or was carried out
abbrev pub requests_answered : (source id flags : ℕ) → (code : Option ℕ) → List Asked → List Asked
requests_answered source id flags code requests =
    all_heard requests (filter_map (news_sent source) (all_reports id flags code))
