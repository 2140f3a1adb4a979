-- The hand is empty, and the link holds the packet.
-- The search alone proves both. They are written out so that a wrong body is refused at once.
use Rattle.std.proofs.Common.{rules}
use Rattle.lpt_link.proofs.link.Link.refusal_take.Goals as goal

pub returns-clause-value : goal.returns-clause-value
returns-clause-value c = search rules

pub returns-clause-held : goal.returns-clause-held
returns-clause-held c = search rules
