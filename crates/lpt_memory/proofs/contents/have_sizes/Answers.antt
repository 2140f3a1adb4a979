-- Lists of other lengths aren't the same.
use Rattle.std.proofs.Common.{◌≢◌, length, sym, arith}
use Rattle.std.proofs.lemmas.List.{length-map}
use Rattle.lpt_memory.specs.Memories.{size, sizes_of}
use Rattle.lpt_memory.proofs.MemoriesLemmas.{same_sizes-lengths}
use Rattle.lpt_memory.proofs.contents.have_sizes.Goals as goal

pub returns-then-memories-sizes : goal.returns-then-memories-sizes
returns-then-memories-sizes c =
    let ms = c.args.memories.now in
    let other : length (sizes_of ms) ≢ length c.args.sizes.now =
    omega (arith, length-map ms size, c.if-memories-sizes.true) in
    sym (same_sizes-lengths (sizes_of ms) c.args.sizes.now other)
