-- The areas so far were cut.
use Rattle.std.proofs.Common.{◌≡◌, ◌++◌, List, None, drop, map}
use Rattle.lpt_memory.specs.declared.request.Area.{Area}
use Rattle.lpt_requests.specs.Cuts.{AreasCut, area_faults, as_load, view}
use Rattle.lpt_requests.proofs.cutting.cut_areas.Given as goal

abbrev pub invariant-loop-area : goal.invariant-loop-area
invariant-loop-area l = record {
  cut : (pieces : List Area) × (map view l.requests.items ≡ map (as_load l.memory) pieces)
      × ((more : List Area) → AreasCut l.each (drop l.area-index l.areas) more
      → AreasCut l.each l.areas (pieces ++ more));
  fit : area_faults (drop l.area-index l.areas) ≡ None;
}
