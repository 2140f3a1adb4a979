-- The octets that are left are those of the areas that are left, and the body so far has the others.
use Rattle.std.proofs.Common.{◌≡◌, ◌∷◌, ◌++◌, length, drop}
use Rattle.lpt_memory.specs.Given.{all_length, areas_of, reply_of}
use Rattle.lpt_memory.proofs.octets.body_given.Given as goal

abbrev pub invariant-loop-range : goal.invariant-loop-range
invariant-loop-range l = record {
  whole : length l.rest ≡ all_length (drop l.range-index l.ranges);
  body :
      l.body.items ++ areas_of l.kind (drop l.range-index l.ranges) l.rest
      ≡ reply_of l.kind l.id l.ranges l.octets;
}
