-- The places that are left, spelled behind the body so far, are the whole body's.
use Rattle.std.proofs.Common.{◌≡◌, ◌++◌, drop, map}
use Rattle.std.specs.List.{flat_map, AllByRecursion}
use Rattle.lpt_memory.specs.Spellings.{body_text, range_text}
use Rattle.lpt_requests.specs.Requests.{as_range, IsInRange}
use Rattle.lpt_requests.proofs.ranges.ranges_body.Given as goal

abbrev pub invariant-loop-range : goal.invariant-loop-range
invariant-loop-range l = record {
  body :
      l.body.items ++ flat_map range_text (map as_range (drop l.range-index l.ranges))
      ≡ body_text range_text l.memory (map as_range l.ranges);
  fits :
      AllByRecursion IsInRange (drop l.range-index l.ranges)
      → AllByRecursion IsInRange l.ranges;
}
