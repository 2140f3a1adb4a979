-- All are of their seats exactly where the rest are.
use Rattle.std.proofs.Common.{◌≡◌, length}
use Rattle.lpt_share.specs.Kinds.{are_of_seats}
use Rattle.lpt_share.proofs.kinds.are_of_seats.Given as goal

abbrev pub invariant-loop-log : goal.invariant-loop-log
invariant-loop-log l = are_of_seats l.logs ≡ are_of_seats l.rest

abbrev pub decreases-loop-log : goal.decreases-loop-log
decreases-loop-log l = length l.rest
