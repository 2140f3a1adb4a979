-- It is full exactly where it is among the rest.
use Rattle.std.proofs.Common.{◌≡◌, length}
use Rattle.lpt_share.specs.Finished.{is_full}
use Rattle.lpt_share.proofs.full.is_full.Given as goal

abbrev pub invariant-loop-log : goal.invariant-loop-log
invariant-loop-log l = is_full l.limit l.logs l.seat ≡ is_full l.limit l.rest l.seat

abbrev pub decreases-loop-log : goal.decreases-loop-log
decreases-loop-log l = length l.rest
