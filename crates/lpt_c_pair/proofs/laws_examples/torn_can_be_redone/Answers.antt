use Rattle.lpt_c_pair.proofs.Working.{torn_can_be_redone}
use Rattle.lpt_c_pair.proofs.laws_examples.torn_can_be_redone.Goals as goal

pub returns : goal.returns
returns f = torn_can_be_redone
