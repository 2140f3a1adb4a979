-- The memory that was found is the one that a load changes, and its size stays.
use Rattle.std.proofs.Common.{◌∙◌, ap, length, ◌<◌, arith}
use Rattle.lpt_memory.specs.Memories.{Contents, sizes_of, memories_loaded}
use Rattle.lpt_memory.specs.Seen.{areas_in}
use Rattle.lpt_memory.proofs.MemoriesLemmas.{loaded-found, sizes_of-set}
use Rattle.lpt_memory.proofs.contents.load.Goals as goal

pub returns-then-known-id-clause-loaded : goal.returns-then-known-id-clause-loaded
returns-then-known-id-clause-loaded c =
    let ms = c.loop-known.known-items in
    let areas = areas_in c.args.body.now c.args.areas.now in
    let within : c.loop-known.known-index < length ms = omega arith in
    loaded-found c.args.id areas ms c.loop-known.known-index c.known-item.result
    c.put_all.new.content within (cc) c.put_all.ensures.put c.loop-known.invariant.loaded
    ∙ ap (λ (xs : Contents). memories_loaded c.args.id areas xs) c.loop-known.invariant.same

pub returns-then-known-id-clause-sizes : goal.returns-then-known-id-clause-sizes
returns-then-known-id-clause-sizes c =
    sizes_of-set c.loop-known.known-items c.loop-known.known-index c.known-item.result
    c.put_all.new.content c.put_all.ensures.size
    ∙ ap (λ (xs : Contents). sizes_of xs) c.loop-known.invariant.same
