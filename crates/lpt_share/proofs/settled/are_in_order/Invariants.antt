-- The logs that are left are in order from the next seat on exactly where all are.
use Rattle.std.proofs.Common.{◌≤◌, length}
use Rattle.lpt_share.specs.Runs.{IsInOrder}
use Rattle.lpt_share.proofs.settled.are_in_order.Given as goal

abbrev pub invariant-loop-log : goal.invariant-loop-log
invariant-loop-log l =
    (l.seat ≤ 11)
    × (IsInOrder l.seat l.rest → IsInOrder 1 l.logs)
    × (IsInOrder 1 l.logs → IsInOrder l.seat l.rest)

abbrev pub decreases-loop-log : goal.decreases-loop-log
decreases-loop-log l = length l.rest
