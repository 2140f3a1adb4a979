-- The places that are left, put behind those so far, are all put, and have room.
use Rattle.std.proofs.Common.{◌≡◌, ◌+◌, ◌≤◌, drop, length, map}
use Rattle.std.specs.List.{flat_map, AllByRecursion}
use Rattle.lpt_memory.specs.Memories.{put_at}
use Rattle.lpt_memory.specs.Spellings.{range_text}
use Rattle.lpt_c.specs.Requests.{range_of, IsInRange}
use Rattle.lpt_c.proofs.requests.put_ranges.Given as goal

abbrev pub invariant-loop-range : goal.invariant-loop-range
invariant-loop-range l = record {
  put :
      put_at l.out l.at (flat_map range_text (map range_of (drop l.range-index l.ranges)))
      ≡ put_at l.fn.out 2 (flat_map range_text (map range_of l.ranges));
  room :
      l.at + length (flat_map range_text (map range_of (drop l.range-index l.ranges)))
      ≤ length l.out;
  fits :
      AllByRecursion IsInRange (drop l.range-index l.ranges)
      → AllByRecursion IsInRange l.ranges;
}
