use Rattle.std.proofs.Common.{◌≡◌, ℕ, ◌<◌, ◌++◌}
use Rattle.lpt_memory.specs.Memories.{content_of}
use Rattle.lpt_spacecraft.specs.Keeping.{kept_memories, HasLength}
use Rattle.lpt_spacecraft.proofs.kept_file.add_memories.Given as goal

-- the memories of the identifiers so far were appended, and their lengths have 64 bits
abbrev pub invariant-loop-id : goal.invariant-loop-id
invariant-loop-id l =
    (l.octets.items ≡ l.fn.octets.items ++ kept_memories l.id l.memories)
    × ((j : ℕ) → j < l.id → HasLength (content_of j l.memories))
