use Rattle.std.proofs.Common.{◌≡◌, ◌-◌, ◌++◌}
use Rattle.lpt_split.specs.Lists.{run}
use Rattle.lpt_split.proofs.lists.push_run.Given as goal

-- the numbers so far are there
abbrev pub invariant-loop-number : goal.invariant-loop-number
invariant-loop-number l = record {
  so_far : l.parts.items ≡ l.initial.parts.items ++ run l.from (l.number - l.from);
}
