-- What is left is within the memory, and the body so far has the areas that were gone over.
use Rattle.std.proofs.Common.{◌≡◌, ◌∷◌, ◌++◌, length, drop}
use Rattle.std.specs.List.{flat_map}
use Rattle.lpt_memory.specs.Effects.{check_area}
use Rattle.lpt_memory.specs.Ranges.{RangesFit}
use Rattle.lpt_memory.proofs.reply.check.Given as goal

abbrev pub invariant-loop-range : goal.invariant-loop-range
invariant-loop-range l = record {
  fit : RangesFit (length l.content) (drop l.range-index l.ranges);
  body :
      l.body.items ++ flat_map (check_area l.content) (drop l.range-index l.ranges)
      ≡ l.id ∷ length l.ranges ∷ flat_map (check_area l.content) l.ranges;
}
