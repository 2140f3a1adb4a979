use Rattle.lpt_c_pair.proofs.Handing.{messages_are_handed, messages_stay}
use Rattle.lpt_c_pair.proofs.laws.messages_are_handed.Goals as goal

pub returns-clause-at_once : goal.returns-clause-at_once
returns-clause-at_once f = messages_are_handed

pub returns-clause-later : goal.returns-clause-later
returns-clause-later f = messages_stay
