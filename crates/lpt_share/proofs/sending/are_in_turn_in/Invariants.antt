-- All are in turn exactly where the rest are, behind the last one.
use Rattle.std.proofs.Common.{◌≡◌, None, length}
use Rattle.lpt_share.specs.Turn.{are_in_turn}
use Rattle.lpt_share.proofs.sending.are_in_turn_in.Given as goal

abbrev pub invariant-loop-entry : goal.invariant-loop-entry
invariant-loop-entry l = are_in_turn l.direction None l.entries ≡ are_in_turn l.direction l.last l.rest

abbrev pub decreases-loop-entry : goal.decreases-loop-entry
decreases-loop-entry l = length l.rest
