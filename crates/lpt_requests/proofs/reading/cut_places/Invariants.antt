-- The places so far were cut.
use Rattle.std.proofs.Common.{◌≡◌, ◌++◌, List, None, drop, map}
use Rattle.lpt_memory.specs.declared.request.AreaRange.{AreaRange}
use Rattle.lpt_requests.specs.Cuts.{ArePlacesCut, as_read, place_faults, view}
use Rattle.lpt_requests.proofs.reading.cut_places.Given as goal

abbrev pub invariant-loop-place : goal.invariant-loop-place
invariant-loop-place l = record {
  cut : (ranges : List AreaRange) × (map view l.requests.items
      ≡ map (as_read l.what l.memory) ranges)
      × ((more : List AreaRange) → ArePlacesCut l.each (drop l.place-index l.places) more
      → ArePlacesCut l.each l.places (ranges ++ more));
  fit : place_faults (drop l.place-index l.places) ≡ None;
}
