-- The log has one call more, and is seen as far as it.
-- The search alone proves it. It is written out so that a wrong body is refused at once.
use Rattle.std.proofs.Common.{rules}
use Rattle.lpt_events.proofs.log.SeatLog.note.Goals as goal

pub returns-clause-seat : goal.returns-clause-seat
returns-clause-seat c = search rules

pub returns-clause-seen : goal.returns-clause-seen
returns-clause-seen c = search rules

pub returns-clause-calls : goal.returns-clause-calls
returns-clause-calls c = search rules
