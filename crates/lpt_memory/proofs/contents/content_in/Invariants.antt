-- The content in what is left is the content in all.
use Rattle.std.proofs.Common.{◌≡◌, drop}
use Rattle.lpt_memory.specs.Memories.{content_of}
use Rattle.lpt_memory.proofs.contents.content_in.Given as goal

abbrev pub invariant-loop-known : goal.invariant-loop-known
invariant-loop-known l = content_of l.id (drop l.known-index l.memories)
    ≡ content_of l.id l.memories
