-- The run so far, and the names that are left, are the runs that were left.
use Rattle.std.proofs.Common.{◌≡◌, length}
use Rattle.lpt_ledger.specs.Runs.{runs_from}
use Rattle.lpt_ledger.proofs.runs.Runs.next_run.Given as goal

abbrev pub invariant-loop-name : goal.invariant-loop-name
invariant-loop-name l = runs_from l.run l.self-inside.names ≡ l.fn.self

abbrev pub decreases-loop-name : goal.decreases-loop-name
decreases-loop-name l = length l.self-inside.names
