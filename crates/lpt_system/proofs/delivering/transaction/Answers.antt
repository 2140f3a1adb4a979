-- A release is one of its direction and identifier.
use Rattle.std.proofs.Common.{rules}
use Rattle.lpt_system.proofs.delivering.transaction.Goals as goal

pub returns-in-Released : goal.returns-in-Released
returns-in-Released c = search rules
