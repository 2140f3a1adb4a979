use Rattle.std.proofs.Common.{◌≡◌, length}
use Rattle.lpt_share.specs.Agreeing.{has_seat}
use Rattle.lpt_share.proofs.agree.has_seat.Given as goal

abbrev pub invariant-loop-log : goal.invariant-loop-log
invariant-loop-log l = has_seat l.seat l.logs ≡ has_seat l.seat l.rest

abbrev pub decreases-loop-log : goal.decreases-loop-log
decreases-loop-log l = length l.rest
