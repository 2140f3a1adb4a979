-- No job is left, and the numbers begin at 0. It is written out so that a wrong body is refused at
-- once.
use Rattle.std.proofs.Common.{ap, List}
use Rattle.lpt_jobs.specs.declared.job.Job.{Job}
use Rattle.lpt_jobs.specs.Jobs.{Jobs}
use Rattle.lpt_jobs.proofs.queue.JobQueue.clear.Goals as goal

pub returns : goal.returns
returns c =
    let with_jobs : List Job → Jobs = λ jobs. record { first = 0; jobs = jobs } in
    ap with_jobs c.clear.ensures.items
