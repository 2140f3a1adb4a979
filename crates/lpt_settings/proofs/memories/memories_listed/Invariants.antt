-- The memories so far, with those that are still to be described, are all that are described.
use Rattle.std.proofs.Common.{◌≡◌, drop}
use Rattle.toml.specs.View.{items_view}
use Rattle.lpt_memory.proofs.LoopLemmas.{with_front}
use Rattle.lpt_settings.specs.MemoryTables.{each_memory}
use Rattle.lpt_settings.proofs.memories.memories_listed.Given as goal

abbrev pub invariant-loop-value : goal.invariant-loop-value
invariant-loop-value l =
    with_front l.memories.items (each_memory (items_view (drop l.value-index l.value-items)))
    ≡ each_memory (items_view l.value-items)
