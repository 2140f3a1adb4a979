-- The runs that are left ascend behind the last one where all do.
use Rattle.std.proofs.Common.{◌≡◌, length}
use Rattle.lpt_ledger.specs.Runs.{ascend, ascend_behind}
use Rattle.lpt_state.specs.Verdicts.{runs_in}
use Rattle.lpt_state.proofs.reading.ascends.Given as goal

abbrev pub invariant-loop-six : goal.invariant-loop-six
invariant-loop-six l = ascend_behind l.before (runs_in l.left) ≡ ascend (runs_in l.octets)

abbrev pub decreases-loop-six : goal.decreases-loop-six
decreases-loop-six l = length l.left
