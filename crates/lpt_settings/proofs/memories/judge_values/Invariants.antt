-- Nothing is wrong with the values so far, nor do they repeat what comes later.
use Rattle.std.proofs.Common.{◌≡◌, drop}
use Rattle.toml.specs.View.{items_view}
use Rattle.lpt_settings.specs.MemoryTables.{each_memory}
use Rattle.lpt_settings.proofs.JudgeLemmas.{distinct}
use Rattle.lpt_settings.proofs.memories.judge_values.Given as goal

abbrev pub invariant-loop-place : goal.invariant-loop-place
invariant-loop-place l =
    distinct (each_memory (items_view (drop l.place l.values)))
    ≡ distinct (each_memory (items_view l.values))
