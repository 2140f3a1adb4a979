use Rattle.std.proofs.Common.{◌-◌, ◌+◌, ◌≤◌, not}
use Rattle.lpt_layout_join.specs.PartNumbersInside.{has}
use Rattle.lpt_layout_join.specs.Missing.{AreAll}
use Rattle.lpt_layout_join.proofs.gaps.first_from.Given as goal

-- none before the number is as wanted
abbrev pub invariant-loop-number : goal.invariant-loop-number
invariant-loop-number l = record {
  from : l.from ≤ l.number;
  within : l.number ≤ l.last + 1;
  before : AreAll (has l.came) (not l.wanted) l.from l.number;
}

abbrev pub decreases-loop-number : goal.decreases-loop-number
decreases-loop-number l = l.last + 1 - l.number
