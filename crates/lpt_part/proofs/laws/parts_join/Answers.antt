-- The parts joined are the message.
use Rattle.lpt_part.proofs.SplitLemmas.{parts_joined-take, parts_joined-all}
use Rattle.lpt_part.proofs.laws.parts_join.Goals as goal

pub returns-clause-front : goal.returns-clause-front
returns-clause-front c = parts_joined-take

pub returns-clause-all : goal.returns-clause-all
returns-clause-all c = parts_joined-all
