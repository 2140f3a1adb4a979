-- A worker has the job that waited longest.
use Rattle.std.proofs.Common.{ap, ◌∙◌, rules}
use Rattle.lpt_jobs.specs.Jobs.{Jobs, is_claimed}
use Rattle.lpt_memory.specs.Readings.{Job as Ticket}
use Rattle.lpt_node.proofs.ClaimLemmas.{is_claimed-claimed, one_waits}
use Rattle.lpt_node.proofs.node.Node.claim.Goals as goal

pub claim-number-requires : goal.claim-number-requires
claim-number-requires c = search (rules, one_waits)

pub returns-clause-out : goal.returns-clause-out
returns-clause-out c =
    ap (λ (t : Ticket). is_claimed c.claim-number.new.self t.job) c.new.ensures
    ∙ ap (λ (q : Jobs). is_claimed q c.claim-number.result.0) c.claim-number.ensures.left
    ∙ is_claimed-claimed c.self.inside.jobs c.claim-number.result c.claim-number.ensures.job
