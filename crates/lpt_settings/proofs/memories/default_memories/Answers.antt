-- One memory of 256 octets can be memories.
use Rattle.std.proofs.Common.{◌≡◌, ◌∙◌, ap, replicate, ◌∷◌, [], ◌++◌}
use Rattle.lpt_settings.specs.MemoryTables.{if_memories, default_memories}
use Rattle.lpt_settings.proofs.MemoryLemmas.{if_memories-default}
use Rattle.lpt_settings.proofs.memories.default_memories.Goals as goal

pub returns : goal.returns
unfolding default_memories
returns c =
    let octets = c.in_ok-octets.octets in
    let none : c.in_ok-memories.memories.items ≡ [] = c.in_ok-memories.ensures.items in
    let filled : octets ≡ replicate 256 0 = c.in_ok-octets.ensures in
    let same : c.push.new.self.items ≡ default_memories =
    c.in_ok-push.ensures.items
    ∙ ap (λ ms. ms ++ (1, octets) ∷ []) none
    ∙ ap (λ o. (1, o) ∷ []) filled in
    c.if_memories.ensures ∙ ap if_memories same ∙ if_memories-default
