-- The front job was claimed, and all others move up. It is written out so that a wrong body is
-- refused at once.
use Rattle.std.proofs.Common.{◌∙◌, ap, sym, ◌+◌, List, drop}
use Rattle.lpt_jobs.specs.declared.job.Job.{Job}
use Rattle.lpt_jobs.specs.Jobs.{Jobs, was_claimed, without_front}
use Rattle.lpt_jobs.proofs.JobsLemmas.{kept-pop}
use Rattle.lpt_jobs.proofs.queue.JobQueue.pop_front.Goals as goal

pub invariant_of-self : goal.invariant_of-self
invariant_of-self c =
    kept-pop c.self.inside.first c.self.inside.jobs.items c.pop_front.new.self.items
    c.self.inside.claimed _ c.self.invariant c.in-Some-Committed.ensures.items
    (ap was_claimed c.in-Some-Committed.field-0-is)

pub returns-clause-left : goal.returns-clause-left
returns-clause-left c =
    let rest : List Job → Jobs
    = λ jobs. record { first = c.self.inside.first + 1; jobs = drop 1 jobs } in
    ap rest (sym c.in-Some-Committed.ensures.items)
    ∙ ap (λ (v : Jobs). without_front v) c.self.view_is
