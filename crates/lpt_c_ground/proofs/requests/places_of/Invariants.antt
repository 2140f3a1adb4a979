-- The places so far, and those that are left, are all.
use Rattle.std.proofs.Common.{◌≡◌, ◌++◌, drop, map}
use Rattle.lpt_c_ground.specs.Plans.{place_of}
use Rattle.lpt_c_ground.proofs.requests.places_of.Given as goal

abbrev pub invariant-loop-place : goal.invariant-loop-place
invariant-loop-place l =
    l.all.items ++ map place_of (drop l.place-index l.places) ≡ map place_of l.places
