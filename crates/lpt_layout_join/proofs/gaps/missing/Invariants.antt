use Rattle.std.proofs.Common.{◌+◌, ◌≤◌, ◌-◌, ◌++◌, List, ℕ}
use Rattle.lpt_layout_join.specs.PartNumbersInside.{has}
use Rattle.lpt_layout_join.specs.Missing.{AreGaps}
use Rattle.lpt_layout_join.proofs.gaps.missing.Given as goal

-- the gaps so far, and whatever gaps come behind, are all
abbrev pub invariant-loop-gap : goal.invariant-loop-gap
invariant-loop-gap l = record {
  from : l.from ≤ l.last + 1;
  told : (more : List (ℕ × ℕ)) → AreGaps (has l.came) l.from l.last more
      → AreGaps (has l.came) 1 l.last (l.gaps.items ++ more);
}

abbrev pub decreases-loop-gap : goal.decreases-loop-gap
decreases-loop-gap l = l.last + 1 - l.from
