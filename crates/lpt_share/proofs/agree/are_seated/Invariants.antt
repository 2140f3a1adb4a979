use Rattle.std.proofs.Common.{length}
use Rattle.lpt_share.specs.Agreeing.{AreSeated}
use Rattle.lpt_share.proofs.agree.are_seated.Given as goal

abbrev pub invariant-loop-entry : goal.invariant-loop-entry
invariant-loop-entry l =
    (AreSeated l.rest l.logs → AreSeated l.entries l.logs)
    × (AreSeated l.entries l.logs → AreSeated l.rest l.logs)

abbrev pub decreases-loop-entry : goal.decreases-loop-entry
decreases-loop-entry l = length l.rest
