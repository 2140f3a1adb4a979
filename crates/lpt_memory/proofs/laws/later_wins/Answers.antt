-- Areas one after the other, place by place.
use Rattle.lpt_memory.proofs.PutLemmas.{put_all-last, put_all-untouched}
use Rattle.lpt_memory.proofs.laws.later_wins.Goals as goal

pub returns-clause-last : goal.returns-clause-last
returns-clause-last c = put_all-last

pub returns-clause-untouched : goal.returns-clause-untouched
returns-clause-untouched c = put_all-untouched
