-- The octets in front were cut.
use Rattle.std.proofs.Common.{◌≡◌, ◌+◌, ◌^◌, ◌<◌, ◌≤◌, ◌++◌, List, map}
use Rattle.lpt_memory.specs.declared.request.AreaRange.{AreaRange}
use Rattle.lpt_requests.specs.Cuts.{IsRangeCut, as_read, view}
use Rattle.lpt_requests.proofs.reading.cut_place.Given as goal

abbrev pub invariant-loop-rest : goal.invariant-loop-rest
invariant-loop-rest l = record {
  cut : (ranges : List AreaRange)
      × (map view l.requests.items ≡ map view l.fn.requests.items ++ map (as_read l.what l.memory)
      ranges)
      × ((more : List AreaRange) → IsRangeCut l.each l.address l.rest more
      → IsRangeCut l.each l.fn.place.address l.fn.place.len (ranges ++ more));
  fit : 0 < l.rest → l.address + l.rest ≤ 2 ^ 32;
}

abbrev pub decreases-loop-rest : goal.decreases-loop-rest
decreases-loop-rest l = l.rest
