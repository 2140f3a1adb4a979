-- It is aborted exactly where the rest does it.
use Rattle.std.proofs.Common.{◌≡◌, length}
use Rattle.lpt_share.specs.Finished.{is_aborted}
use Rattle.lpt_share.proofs.finish.is_aborted.Given as goal

abbrev pub invariant-loop-entry : goal.invariant-loop-entry
invariant-loop-entry l =
    is_aborted l.entries l.direction l.name ≡ is_aborted l.rest l.direction l.name

abbrev pub decreases-loop-entry : goal.decreases-loop-entry
decreases-loop-entry l = length l.rest
