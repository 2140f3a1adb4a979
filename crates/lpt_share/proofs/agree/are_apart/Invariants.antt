use Rattle.std.proofs.Common.{length}
use Rattle.lpt_share.specs.Agreeing.{AreApart}
use Rattle.lpt_share.proofs.agree.are_apart.Given as goal

abbrev pub invariant-loop-log : goal.invariant-loop-log
invariant-loop-log l = (AreApart l.rest → AreApart l.logs) × (AreApart l.logs → AreApart l.rest)

abbrev pub decreases-loop-log : goal.decreases-loop-log
decreases-loop-log l = length l.rest
