-- There is a free name, and no room.
-- The search alone proves it. It is written out so that a wrong body is refused at once.
use Rattle.std.proofs.Common.{rules}
use Rattle.lpt_execution.proofs.executing.reply_fault.Goals as goal

pub returns-then-not-room : goal.returns-then-not-room
returns-then-not-room c = search rules
