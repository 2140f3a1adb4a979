-- What holds of what is left holds of all.
use Rattle.std.proofs.Common.{◌≡◌, drop}
use Rattle.lpt_memory.specs.Memories.{are_distinct, sizes_of}
use Rattle.lpt_memory.proofs.contents.are_distinct.Given as goal

abbrev pub invariant-loop-i : goal.invariant-loop-i
invariant-loop-i l = are_distinct (sizes_of (drop l.i l.memories))
    ≡ are_distinct (sizes_of l.memories)
