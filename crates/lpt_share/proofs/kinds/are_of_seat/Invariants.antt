-- All are of the seat exactly where the rest are.
use Rattle.std.proofs.Common.{◌≡◌, length}
use Rattle.lpt_share.specs.Kinds.{are_of_seat}
use Rattle.lpt_share.proofs.kinds.are_of_seat.Given as goal

abbrev pub invariant-loop-call : goal.invariant-loop-call
invariant-loop-call l = are_of_seat l.seat l.calls ≡ are_of_seat l.seat l.rest

abbrev pub decreases-loop-call : goal.decreases-loop-call
decreases-loop-call l = length l.rest
