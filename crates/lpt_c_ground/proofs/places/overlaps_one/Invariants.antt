-- The place overlaps one of those that are left exactly where it overlaps one of all.
use Rattle.std.proofs.Common.{◌≡◌, length}
use Rattle.lpt_c_ground.specs.Plans.{overlaps_one}
use Rattle.lpt_c_ground.proofs.places.overlaps_one.Given as goal

abbrev pub invariant-loop-other : goal.invariant-loop-other
invariant-loop-other l = overlaps_one l.place l.others ≡ overlaps_one l.place l.rest

abbrev pub decreases-loop-other : goal.decreases-loop-other
decreases-loop-other l = length l.rest
