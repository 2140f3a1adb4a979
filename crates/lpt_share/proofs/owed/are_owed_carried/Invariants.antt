-- The rest are carried exactly where all are.
use Rattle.std.proofs.Common.{length}
use Rattle.lpt_share.specs.Settled.{AreOwedInOrder}
use Rattle.lpt_share.proofs.owed.are_owed_carried.Given as goal

abbrev pub invariant-loop-one : goal.invariant-loop-one
invariant-loop-one l =
    (AreOwedInOrder l.limit l.logs l.p l.entries l.rest → AreOwedInOrder l.limit l.logs l.p l.entries l.owed)
    × (AreOwedInOrder l.limit l.logs l.p l.entries l.owed → AreOwedInOrder l.limit l.logs l.p l.entries l.rest)

abbrev pub decreases-loop-one : goal.decreases-loop-one
decreases-loop-one l = length l.rest
