-- What is read is spelled by the octets.
use Rattle.lpt_part.proofs.AbortLemmas.{abort_in-IsAbort}
use Rattle.lpt_part.proofs.BodyLemmas.{part_in-IsPart}
use Rattle.lpt_part.proofs.laws.read_is_spelled.Goals as goal

pub returns-clause-part : goal.returns-clause-part
returns-clause-part c = part_in-IsPart

pub returns-clause-abort : goal.returns-clause-abort
returns-clause-abort c = abort_in-IsAbort
