-- Two of the places that are left overlap exactly where two of all do.
use Rattle.std.proofs.Common.{◌≡◌, length}
use Rattle.lpt_c_ground.specs.Plans.{some_overlap}
use Rattle.lpt_c_ground.proofs.places.some_overlap.Given as goal

abbrev pub invariant-loop-place : goal.invariant-loop-place
invariant-loop-place l = some_overlap l.places ≡ some_overlap l.rest

abbrev pub decreases-loop-place : goal.decreases-loop-place
decreases-loop-place l = length l.rest
