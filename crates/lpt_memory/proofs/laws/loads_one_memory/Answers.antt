-- The memory that is named, and the others.
use Rattle.lpt_memory.proofs.PutLemmas.{content_of-loaded, content_of-other}
use Rattle.lpt_memory.proofs.laws.loads_one_memory.Goals as goal

pub returns-clause-named : goal.returns-clause-named
returns-clause-named c = content_of-loaded

pub returns-clause-others : goal.returns-clause-others
returns-clause-others c = content_of-other
