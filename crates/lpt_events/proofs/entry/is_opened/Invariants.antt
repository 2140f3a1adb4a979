-- It is opened exactly where the rest does it.
use Rattle.std.proofs.Common.{◌≡◌, length}
use Rattle.lpt_events.specs.Openings.{is_opened}
use Rattle.lpt_events.proofs.entry.is_opened.Given as goal

abbrev pub invariant-loop-opening : goal.invariant-loop-opening
invariant-loop-opening l =
    is_opened l.openings l.direction l.name ≡ is_opened l.rest l.direction l.name

abbrev pub decreases-loop-opening : goal.decreases-loop-opening
decreases-loop-opening l = length l.rest
