-- Requests that reports don't tell apart.
use Rattle.std.specs.Prelude.{ℕ, nat_lt, Bool, List, count_by}
use Rattle.lpt_outcomes.specs.declared.asked.Asked.{Asked}
use Rattle.lpt_outcomes.specs.Lines.{sharers}

-- whether another of these requests has the source and the request ID of this one
abbrev pub is_shared : List Asked → Asked → Bool
is_shared requests a = nat_lt 1 (sharers requests a)

-- how many of them share theirs with another
abbrev pub shared_in : List Asked → ℕ
shared_in requests = count_by (is_shared requests) requests
