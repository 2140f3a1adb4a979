-- It is put exactly where the rest does it.
use Rattle.std.proofs.Common.{◌≡◌, length}
use Rattle.lpt_share.specs.Finished.{is_put}
use Rattle.lpt_share.proofs.taken.is_put.Given as goal

abbrev pub invariant-loop-entry : goal.invariant-loop-entry
invariant-loop-entry l = is_put l.entries l.direction l.n ≡ is_put l.rest l.direction l.n

abbrev pub decreases-loop-entry : goal.decreases-loop-entry
decreases-loop-entry l = length l.rest
