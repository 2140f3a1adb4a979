-- What was written is read again.
use Rattle.lpt_part.proofs.AbortLemmas.{abort_verdict-abort_body}
use Rattle.lpt_part.proofs.BodyLemmas.{part_verdict-body_of}
use Rattle.lpt_part.proofs.laws.written_is_read.Goals as goal

pub returns-clause-part : goal.returns-clause-part
returns-clause-part c = part_verdict-body_of

pub returns-clause-abort : goal.returns-clause-abort
returns-clause-abort c = abort_verdict-abort_body
