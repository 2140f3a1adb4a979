-- What was told by source and request ID.
use Rattle.std.specs.Prelude.{◌||◌, if◌then◌else◌, List, [], ◌∷◌, option_map, Option, Some, None}
use Rattle.std.specs.BTreeMap.{BTreeMap, get}
use Rattle.std.specs.List.{list_any}
use Rattle.std.specs.Option.{option_or}
use Rattle.lpt_outcomes.specs.declared.asked.Asked.{Asked}
use Rattle.lpt_outcomes.specs.declared.news.ReportNews.{ReportNews}
use Rattle.lpt_outcomes.specs.declared.outcome.Outcome.{Outcome}
use Rattle.lpt_outcomes.specs.Keys.{Key, key_cmp, key_of, reported_key, same_key}
use Rattle.lpt_outcomes.specs.Lines.{has_key}
use Rattle.lpt_outcomes.specs.Reports.{outcome_told}
use Rattle.lpt_outcomes.specs.Requests.{nothing_told}

-- of a source and a request ID that one of these requests has nothing was told
abbrev pub untold : List Asked → Key → Option Outcome
untold requests k = if list_any (has_key k) requests then Some nothing_told else None

-- what was told on them, if they are there, with one more report
abbrev pub heard_at : Key → ReportNews → Option Outcome → Option Outcome
heard_at k n o = if same_key (reported_key n) k then option_map (λ x. outcome_told x n) o else o

-- with reports, one after the other
abbrev pub told_at : Key → List ReportNews → Option Outcome → Option Outcome
told_at k [] o = o
told_at k (n ∷ ns) o = told_at k ns (heard_at k n o)

-- what was told first, and what was told then
abbrev pub outcomes_joined : Outcome → Outcome → Outcome
outcomes_joined before after = record {
  accepted = before.accepted || after.accepted;
  started = before.started || after.started;
  completed = before.completed || after.completed;
  failure = option_or before.failure after.failure;
}

-- a request with what was told on it, if that is there
abbrev pub with_told : Asked → Option Outcome → Asked
with_told a None = a
with_told a (Some o) = record a { outcome = outcomes_joined a.outcome o }

abbrev pub answered_by : BTreeMap Key Outcome → Asked → Asked
answered_by m a = with_told a (get key_cmp m (key_of a))
