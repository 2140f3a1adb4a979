-- How many jobs were claimed, once one has changed.
use Rattle.std.proofs.Common.{sym, ap, refl, ◌+◌, ◌-◌, arith}
use Rattle.std.proofs.lemmas.List.Folds.{prefix_len-set}
use Rattle.lpt_jobs.specs.declared.job.Job.TheVariants.{Claimed, Committed}
use Rattle.lpt_jobs.specs.Jobs.{claimed_in, next_claim, was_claimed}
use Rattle.lpt_jobs.proofs.JobsLemmas.{some-within, claimed_in-claim, claimed_in-push, is_claimed-at}
use Rattle.lpt_jobs.proofs.laws.claims_go_in_order.Goals as goal

pub returns-clause-claim : goal.returns-clause-claim
returns-clause-claim c q order some =
    let n = claimed_in q.jobs in
    let within = some-within (λ m. (next_claim q, m)) q.jobs n some in
    let more = claimed_in-claim q.jobs Claimed order within refl in
    omega (arith, more)

pub returns-clause-push : goal.returns-clause-push
returns-clause-push c q message = ap (λ n. q.first + n) (claimed_in-push q.jobs _ refl)

pub returns-clause-commit : goal.returns-clause-commit
returns-clause-commit c q n reading is =
    let i = n - q.first in
    let was = is_claimed-at q n Claimed is in
    ap (λ m. q.first + m)
    (prefix_len-set was_claimed q.jobs i (Committed reading) Claimed (sym was.1))
