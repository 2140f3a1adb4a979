-- As many as the limit are open.
-- The search alone proves it. It is written out so that a wrong body is refused at once.
use Rattle.std.proofs.Common.{rules}
use Rattle.lpt_node.proofs.node.Node.refusal_open.Goals as goal

pub returns-then-len-self-clause-value : goal.returns-then-len-self-clause-value
returns-then-len-self-clause-value c = search rules
