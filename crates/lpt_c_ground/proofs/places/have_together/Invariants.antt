-- The places that are left have together what is left exactly where all have all.
use Rattle.std.proofs.Common.{◌≡◌, drop}
use Rattle.lpt_c_ground.specs.Plans.{have_together}
use Rattle.lpt_c_ground.proofs.places.have_together.Given as goal

abbrev pub invariant-loop-place : goal.invariant-loop-place
invariant-loop-place l =
    have_together (drop l.place-index l.places) l.rest ≡ have_together l.places l.len
