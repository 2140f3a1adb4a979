use Rattle.lpt_c_pair.proofs.Redoing.{writes_can_be_made_again, writes_can_be_taken_back}
use Rattle.lpt_c_pair.proofs.laws.writes_can_be_made_again.Goals as goal

pub returns-clause-again : goal.returns-clause-again
returns-clause-again f = writes_can_be_made_again

pub returns-clause-back : goal.returns-clause-back
returns-clause-back f = writes_can_be_taken_back
