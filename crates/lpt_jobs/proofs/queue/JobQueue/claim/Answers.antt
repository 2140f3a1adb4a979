-- The oldest job that waits gives its message. It is written out so that a wrong body is refused at
-- once.
use Rattle.std.proofs.Common.{◌∙◌, ap, sym, ℕ, ◌<◌, ◌+◌, List, length, set, Option, rules}
use Rattle.std.specs.Option.{option_map}
use Rattle.lpt_jobs.specs.declared.job.Job.{Job}
use Rattle.lpt_jobs.specs.declared.job.Job.TheVariants.{Claimed}
use Rattle.lpt_jobs.specs.Jobs.{Jobs, was_claimed, message_in, oldest_unclaimed, after_claim}
use Rattle.lpt_jobs.proofs.JobsLemmas.{kept-claim, some-within, unclaimed-at}
use Rattle.lpt_jobs.proofs.queue.JobQueue.claim.Goals as goal

pub invariant_of-self : goal.invariant_of-self
invariant_of-self c =
    let some : c.self.inside.claimed < length c.self.inside.jobs.items
    = search (rules, some-within) in
    kept-claim c.self.inside.first c.self.inside.jobs.items c.self.inside.claimed
    c.replace-oldest.new.dest c.self.invariant some (ap was_claimed c.replace-oldest.ensures.after)

pub returns-clause-left : goal.returns-clause-left
returns-clause-left c =
    let q = c.self.inside in
    let with_jobs : List Job → Jobs = λ jobs. record { first = q.first; jobs = jobs } in
    let written = ap (λ (j : Job). set q.jobs.items q.claimed j) c.replace-oldest.ensures.after in
    let oldest = ap (λ (i : ℕ). set q.jobs.items i Claimed) c.self.invariant.count in
    ap with_jobs (written ∙ oldest) ∙ ap (λ (v : Jobs). after_claim v) c.self.view_is

pub returns-clause-job : goal.returns-clause-job
returns-clause-job c =
    let q = c.self.inside in
    let jobs : Jobs = record { first = q.first; jobs = q.jobs.items } in
    let some : q.claimed < length q.jobs.items = search (rules, some-within) in
    let numbered : Job → Option (ℕ × List ℕ)
    = λ j. option_map (λ m. (q.first + q.claimed, m)) (message_in j) in
    sym (ap oldest_unclaimed c.self.view_is)
    ∙ unclaimed-at jobs q.claimed c.index_mut.result.now c.self.invariant.count some
    c.index_mut.ensures.value
    ∙ ap numbered (sym c.in-Waiting.ensures.value)
