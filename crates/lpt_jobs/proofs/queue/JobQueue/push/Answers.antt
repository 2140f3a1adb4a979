-- The job is the last, and waits; without memory for it the jobs are as before.
use Rattle.std.proofs.Common.{◌+◌, ◌<◌, ◌^◌, length, is_ok, refl, rules}
use Rattle.lpt_jobs.proofs.JobsLemmas.{kept-push}
use Rattle.lpt_jobs.proofs.queue.JobQueue.push.Goals as goal

pub invariant_of-self : goal.invariant_of-self
invariant_of-self c =
    let room : c.self.inside.first + length c.self.inside.jobs.items + 1 < 2 ^ 64
    = search rules in
    rw c.push_back.ensures.items (kept-push c.self.inside.first
    c.self.inside.jobs.items c.self.inside.claimed _ (is_ok c.push_back.result)
    c.self.invariant refl room)
