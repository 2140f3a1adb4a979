-- Any other number is no reason. It is written out so that a wrong body is refused at once.
use Rattle.std.proofs.Common.{rules}
use Rattle.lpt_part.specs.Aborts.{abort_verdict}
use Rattle.lpt_part.proofs.abort.fault_or_abort.Goals as goal

pub returns-in_default : goal.returns-in_default
unfolding abort_verdict
returns-in_default c = search rules
