-- Which request a report is on.
use Rattle.std.specs.Prelude.{◌==◌, ◌&&◌, Bool}
use Rattle.std.specs.declared.cmp.Ordering.{Ordering}
use Rattle.std.specs.Ordering.{nat_cmp, on, then_cmp}
use Rattle.lpt_outcomes.specs.declared.asked.Asked.{Asked}
use Rattle.lpt_outcomes.specs.declared.key.Key as declared
use Rattle.lpt_outcomes.specs.declared.news.ReportNews.{ReportNews}

-- a source and a request ID
abbrev pub Key : Type 0
Key = declared.Key

-- those of a request
abbrev pub key_of : Asked → Key
key_of a = record { source = a.source; id = a.request.value }

-- those of the request that a report is on: its destination is that request's source
abbrev pub reported_key : ReportNews → Key
reported_key n = record { source = n.destination; id = n.report.request.value }

-- same source and same request ID
abbrev pub same_key : Key → Key → Bool
same_key a b = (a.source == b.source) && (a.id == b.id)

-- how they are ordered: by source, and then by request ID
abbrev pub key_cmp : Key → Key → Ordering
key_cmp = then_cmp (on (λ k. k.source) nat_cmp) (on (λ k. k.id) nat_cmp)
