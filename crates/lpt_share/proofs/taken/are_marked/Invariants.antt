-- The rest have their marks exactly where all have.
use Rattle.std.proofs.Common.{◌≡◌, ◌+◌, length}
use Rattle.lpt_share.specs.FinishedInside.{AreMarked}
use Rattle.lpt_share.proofs.taken.are_marked.Given as goal

abbrev pub invariant-loop-mark : goal.invariant-loop-mark
invariant-loop-mark l =
    (l.n + length l.rest ≡ length l.marks)
    × (AreMarked l.limit l.logs l.world l.n l.rest → AreMarked l.limit l.logs l.world 0 l.marks)
    × (AreMarked l.limit l.logs l.world 0 l.marks → AreMarked l.limit l.logs l.world l.n l.rest)

abbrev pub decreases-loop-mark : goal.decreases-loop-mark
decreases-loop-mark l = length l.rest
