-- The sizes so far are those of what was gone over, and what is left is in range.
use Rattle.std.proofs.Common.{◌≡◌, take, drop, true}
use Rattle.lpt_memory.specs.Memories.{are_distinct, sizes_of}
use Rattle.lpt_memory.proofs.contents.sizes_of.Given as goal

abbrev pub invariant-loop-id : goal.invariant-loop-id
invariant-loop-id l = record {
  sizes : l.sizes.items ≡ sizes_of (take l.id-index l.memories);
  in_range : are_distinct (sizes_of (drop l.id-index l.memories)) ≡ true;
}
