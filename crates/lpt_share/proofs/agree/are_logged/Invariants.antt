use Rattle.std.proofs.Common.{length}
use Rattle.lpt_share.specs.Agreeing.{AreLogged}
use Rattle.lpt_share.proofs.agree.are_logged.Given as goal

abbrev pub invariant-loop-log : goal.invariant-loop-log
invariant-loop-log l =
    (AreLogged l.place l.entries l.rest → AreLogged l.place l.entries l.logs)
    × (AreLogged l.place l.entries l.logs → AreLogged l.place l.entries l.rest)

abbrev pub decreases-loop-log : goal.decreases-loop-log
decreases-loop-log l = length l.rest
