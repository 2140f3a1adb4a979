-- What is left is the same where all is.
use Rattle.std.proofs.Common.{◌≡◌, drop}
use Rattle.lpt_memory.specs.Memories.{sizes_of}
use Rattle.lpt_memory.specs.MemoriesInside.{same_sizes}
use Rattle.lpt_memory.proofs.contents.have_sizes.Given as goal

abbrev pub invariant-loop-i : goal.invariant-loop-i
invariant-loop-i l =
    same_sizes (sizes_of (drop l.i l.memories)) (drop l.i l.sizes)
    ≡ same_sizes (sizes_of l.memories) l.sizes
