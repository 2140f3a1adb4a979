-- The places so far have no fault.
use Rattle.std.proofs.Common.{◌≡◌, drop, map}
use Rattle.lpt_requests.specs.Cuts.{place_faults}
use Rattle.lpt_c_ground.specs.Plans.{place_of}
use Rattle.lpt_c_ground.proofs.places.places_fault.Given as goal

abbrev pub invariant-loop-place : goal.invariant-loop-place
invariant-loop-place l =
    place_faults (map place_of (drop l.place-index l.places)) ≡ place_faults (map place_of l.places)
