-- The octets in front were cut.
use Rattle.std.proofs.Common.{◌≡◌, ◌+◌, ◌^◌, ◌<◌, ◌≤◌, ◌++◌, List, length, map}
use Rattle.lpt_memory.specs.declared.request.Area.{Area}
use Rattle.lpt_requests.specs.Cuts.{AreCut, as_load, view}
use Rattle.lpt_requests.proofs.cutting.cut_area.Given as goal

abbrev pub invariant-loop-rest : goal.invariant-loop-rest
invariant-loop-rest l = record {
  cut : (pieces : List Area)
      × (map view l.requests.items ≡ map view l.fn.requests.items ++ map (as_load l.memory) pieces)
      × ((more : List Area) → AreCut l.each l.address l.rest more
      → AreCut l.each l.fn.area.address l.fn.area.octets (pieces ++ more));
  fit : 0 < length l.rest → l.address + length l.rest ≤ 2 ^ 32;
}

abbrev pub decreases-loop-rest : goal.decreases-loop-rest
decreases-loop-rest l = length l.rest
