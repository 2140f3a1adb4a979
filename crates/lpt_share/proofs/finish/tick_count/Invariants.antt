-- The count so far, with that of the rest, is the whole.
use Rattle.std.proofs.Common.{◌≡◌, ◌≤◌, ◌+◌, length}
use Rattle.lpt_share.specs.Finished.{tick_count}
use Rattle.lpt_share.proofs.finish.tick_count.Given as goal

abbrev pub invariant-loop-entry : goal.invariant-loop-entry
invariant-loop-entry l =
    (l.count + length l.rest ≤ length l.entries)
    × (l.count + tick_count l.rest l.seat l.side ≡ tick_count l.entries l.seat l.side)

abbrev pub decreases-loop-entry : goal.decreases-loop-entry
decreases-loop-entry l = length l.rest
