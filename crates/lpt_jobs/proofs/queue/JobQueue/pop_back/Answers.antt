-- The job was the last, and waited; those before it stay.
use Rattle.std.proofs.Common.{ap}
use Rattle.lpt_jobs.specs.Jobs.{was_claimed}
use Rattle.lpt_jobs.proofs.JobsLemmas.{kept-pop_back}
use Rattle.lpt_jobs.proofs.queue.JobQueue.pop_back.Goals as goal

pub invariant_of-self : goal.invariant_of-self
invariant_of-self c =
    kept-pop_back c.self.inside.first c.self.inside.jobs.items c.pop_back.new.self.items
    c.self.inside.claimed _ c.self.invariant c.in-Some-Waiting.ensures.items
    (ap was_claimed c.in-Some-Waiting.field-0-is)
