-- What stands at the front is the first of the jobs.
-- The search alone proves it. It is written out so that a wrong body is refused at once.
use Rattle.std.proofs.Common.{rules}
use Rattle.lpt_jobs.proofs.queue.JobQueue.front.Goals as goal

pub returns-in_default : goal.returns-in_default
returns-in_default c = search rules

pub returns-in-Waiting : goal.returns-in-Waiting
returns-in-Waiting c = search rules

pub returns-in-Committed : goal.returns-in-Committed
returns-in-Committed c = search rules
