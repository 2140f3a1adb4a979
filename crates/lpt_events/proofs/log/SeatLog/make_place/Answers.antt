-- A place more is no call more.
-- The search alone proves it. It is written out so that a wrong body is refused at once.
use Rattle.std.proofs.Common.{rules}
use Rattle.lpt_events.proofs.log.SeatLog.make_place.Goals as goal

pub returns-in-Ok-clause-calls : goal.returns-in-Ok-clause-calls
returns-in-Ok-clause-calls c = search rules

pub returns-in-Err-clause-calls : goal.returns-in-Err-clause-calls
returns-in-Err-clause-calls c = search rules
