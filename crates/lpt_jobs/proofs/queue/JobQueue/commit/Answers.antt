-- The reading stands in the job's place. It is written out so that a wrong body is refused at once.
use Rattle.std.proofs.Common.{ap, ◌-◌, refl, rules}
use Rattle.lpt_jobs.proofs.JobsLemmas.{is_claimed-at, kept-commit}
use Rattle.lpt_jobs.specs.Jobs.{Jobs, after_commit}
use Rattle.lpt_jobs.proofs.queue.JobQueue.commit.Goals as goal

pub invariant_of-self : goal.invariant_of-self
invariant_of-self c =
    let q : Jobs = record { first = c.self.inside.first; jobs = c.self.inside.jobs.items } in
    let there = is_claimed-at q c.args.number c.index_mut.result.now (search rules) in
    kept-commit c.self.inside.first c.self.inside.jobs.items c.self.inside.claimed
    (c.args.number - c.self.inside.first) _ c.index_mut.result.now
    c.self.invariant there.0 there.1 refl

pub returns : goal.returns
returns c = ap (λ (v : Jobs). after_commit v c.args.number c.args.reading) c.self.view_is
