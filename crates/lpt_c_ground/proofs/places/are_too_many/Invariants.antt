-- The places so far take so many requests, no more than a pass has.
use Rattle.std.proofs.Common.{◌≡◌, ◌≤◌, ◌+◌, drop}
use Rattle.lpt_c_ground.specs.Plans.{how_many}
use Rattle.lpt_c_ground.proofs.places.are_too_many.Given as goal

abbrev pub invariant-loop-place : goal.invariant-loop-place
invariant-loop-place l = record {
  counted : l.many + how_many l.each (drop l.place-index l.places) ≡ how_many l.each l.places;
  few : l.many ≤ 16384;
}
