-- Memories that are kept, one identifier further.
use Rattle.std.proofs.Common.{◌≡◌, ◌∙◌, ap, refl, ℕ, suc, ◌+◌, [], ◌++◌, arith}
use Rattle.lpt_memory.specs.Memories.{content_of, Contents}
use Rattle.lpt_spacecraft.specs.Keeping.{kept_memories, kept_memory}

kept_suc : (id : ℕ) (ms : Contents)
    → kept_memories (suc id) ms ≡ kept_memories id ms ++ kept_memory id (content_of id ms)
unfolding kept_memories
kept_suc id ms = refl

pub kept_next : (id : ℕ) (ms : Contents)
    → kept_memories (id + 1) ms ≡ kept_memories id ms ++ kept_memory id (content_of id ms)
kept_next id ms =
    let next : id + 1 ≡ suc id = omega arith in
    ap (λ n. kept_memories n ms) next ∙ kept_suc id ms

pub kept_none : (ms : Contents) → kept_memories 0 ms ≡ []
unfolding kept_memories
kept_none ms = refl
