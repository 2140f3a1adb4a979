-- It is sent exactly where the rest does it.
use Rattle.std.proofs.Common.{◌≡◌, length}
use Rattle.lpt_share.specs.Finished.{is_sent}
use Rattle.lpt_share.proofs.sending.is_first_sent.Given as goal

abbrev pub invariant-loop-entry : goal.invariant-loop-entry
invariant-loop-entry l = is_sent l.entries l.direction l.name 1 ≡ is_sent l.rest l.direction l.name 1

abbrev pub decreases-loop-entry : goal.decreases-loop-entry
decreases-loop-entry l = length l.rest
