use Rattle.lpt_c_pair.proofs.Working.{written_can_be_put_back}
use Rattle.lpt_c_pair.proofs.laws_examples.written_can_be_put_back.Goals as goal

pub returns : goal.returns
returns f = written_can_be_put_back
