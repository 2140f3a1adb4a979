-- The areas of a load, one after the other, are the load.
use Rattle.lpt_memory.proofs.GivenLemmas.{written-effect}
use Rattle.lpt_memory.proofs.laws.writes_are_the_effect.Goals as goal

pub returns : goal.returns
returns c = written-effect
