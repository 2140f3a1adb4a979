-- The areas so far, and those of the places that are left, are those of all.
use Rattle.std.proofs.Common.{◌≡◌, ◌++◌, length, drop, true}
use Rattle.lpt_c_ground.specs.Plans.{areas_of, have_together}
use Rattle.lpt_c_ground.proofs.requests.areas_of.Given as goal

abbrev pub invariant-loop-place : goal.invariant-loop-place
invariant-loop-place l = record {
  made : l.areas.items ++ areas_of (drop l.place-index l.places) l.rest
      ≡ areas_of l.places l.content;
  fit : have_together (drop l.place-index l.places) (length l.rest) ≡ true;
}
