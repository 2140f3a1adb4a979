use Rattle.lpt_c_pair.proofs.TakingBack.{written_can_be_taken_back}
use Rattle.lpt_c_pair.proofs.laws_examples.written_can_be_taken_back.Goals as goal

pub returns : goal.returns
returns f = written_can_be_taken_back
