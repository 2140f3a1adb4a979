-- The places so far have no fault.
use Rattle.std.proofs.Common.{◌≡◌, drop}
use Rattle.lpt_requests.specs.Cuts.{place_faults}
use Rattle.lpt_requests.proofs.reading.places_fault.Given as goal

abbrev pub invariant-loop-place : goal.invariant-loop-place
invariant-loop-place l = place_faults (drop l.place-index l.places) ≡ place_faults l.places
