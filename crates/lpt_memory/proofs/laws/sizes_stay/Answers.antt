-- What a message means is within the memories, so it leaves their sizes.
use Rattle.lpt_memory.specs.Memories.{sizes_of}
use Rattle.lpt_memory.specs.Meanings.{meaning}
use Rattle.lpt_memory.proofs.MeaningLemmas.{meaning-fits}
use Rattle.lpt_memory.proofs.PutLemmas.{sizes_of-effect}
use Rattle.lpt_memory.proofs.laws.sizes_stay.Goals as goal

pub returns : goal.returns
returns c = λ apid message ms.
    sizes_of-effect (meaning apid (sizes_of ms) message) ms
    (meaning-fits apid (sizes_of ms) message)
