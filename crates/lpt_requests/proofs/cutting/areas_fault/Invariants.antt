-- The areas so far have no fault.
use Rattle.std.proofs.Common.{◌≡◌, drop}
use Rattle.lpt_requests.specs.Cuts.{area_faults}
use Rattle.lpt_requests.proofs.cutting.areas_fault.Given as goal

abbrev pub invariant-loop-area : goal.invariant-loop-area
invariant-loop-area l = area_faults (drop l.area-index l.areas) ≡ area_faults l.areas
