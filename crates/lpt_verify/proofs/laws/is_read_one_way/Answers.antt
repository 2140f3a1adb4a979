-- The lemma says it.
use Rattle.lpt_verify.proofs.ReadingLemmas.{IsReport-one}
use Rattle.lpt_verify.proofs.laws.is_read_one_way.Goals as goal

pub returns : goal.returns
returns c = IsReport-one
