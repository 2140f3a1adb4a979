-- What is left has the memory where all have it.
use Rattle.std.proofs.Common.{◌≡◌, drop, is_some}
use Rattle.lpt_memory.specs.Meanings.{size_of}
use Rattle.lpt_memory.specs.Memories.{sizes_of}
use Rattle.lpt_memory.proofs.contents.is_known.Given as goal

abbrev pub invariant-loop-known : goal.invariant-loop-known
invariant-loop-known l =
    is_some (size_of l.id (sizes_of (drop l.known-index l.memories)))
    ≡ is_some (size_of l.id (sizes_of l.memories))
