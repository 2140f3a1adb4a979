use Rattle.std.proofs.Common.{◌≤◌}
use Rattle.lpt_table.specs.Places.{rank, when_cmp, by_moment}
use Rattle.lpt_table.proofs.places.rank_of.Given as goal

-- it belongs before those that were looked at
abbrev pub invariant-loop-at : goal.invariant-loop-at
invariant-loop-at l = rank when_cmp (l.last, l.name) (by_moment l.places) ≤ l.at
