-- The parts sent so far go on with those of the rest, which finishes the transaction or doesn't.
use Rattle.std.proofs.Common.{◌≡◌, ◌≤◌, ◌+◌, length}
use Rattle.lpt_share.specs.Finished.{is_finished}
use Rattle.lpt_share.specs.Settled.{sent_on}
use Rattle.lpt_share.proofs.finish.sent_to_the_end.Given as goal

abbrev pub invariant-loop-entry : goal.invariant-loop-entry
invariant-loop-entry l =
    (l.next + length l.rest ≤ 1 + length l.entries)
    × (sent_on l.rest l.direction l.name l.next ≡ sent_on l.entries l.direction l.name 1)
    × (is_finished l.entries l.direction l.name ≡ is_finished l.rest l.direction l.name)

abbrev pub decreases-loop-entry : goal.decreases-loop-entry
decreases-loop-entry l = length l.rest
