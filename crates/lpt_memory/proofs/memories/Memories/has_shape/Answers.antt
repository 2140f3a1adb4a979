-- What is computed of the sizes says whether they are equal.
use Rattle.std.proofs.Common.{rules}
use Rattle.lpt_memory.specs.Memories.{sizes_of}
use Rattle.lpt_memory.proofs.MemoriesLemmas.{same_sizes-decides}
use Rattle.lpt_memory.proofs.memories.Memories.has_shape.Goals as goal

pub returns : goal.returns
returns c =
    same_sizes-decides c.have_sizes.result (sizes_of c.args.self.now) c.args.shape.now
    (search rules)
