-- The part starts behind those before it, and is cut off at the message's end. It is written out so
-- that a wrong body is refused at once.
use Rattle.std.proofs.Common.{arith, rules}
use Rattle.std.proofs.lemmas.Grind.{common_steps}
use Rattle.lpt_layout.proofs.splitting.slice_as.Goals as goal

pub returns-then-start-message-clause-some : goal.returns-then-start-message-clause-some
returns-then-start-message-clause-some c = search rules

pub returns-clause-some : goal.returns-clause-some
returns-clause-some c = search rules

pub returns-clause-part : goal.returns-clause-part
returns-clause-part c = grind (arith, common_steps)
