-- The calls of the turn as far as it went.
use Rattle.std.proofs.Common.{rules, [], ◌∷◌}
use Rattle.lpt_events.specs.declared.event.Event.TheVariants.{Claim, Commit, Apply}
use Rattle.lpt_share.proofs.TurnLemmas.{stays, goes_on}
use Rattle.lpt_share.proofs.call.Shared.worker_turn.Goals as goal

pub returns-in_err-job-clause-added : goal.returns-in_err-job-clause-added
returns-in_err-job-clause-added g c =
    stays g.J.Origin.given (Claim c.args.worker ∷ Commit c.args.worker ∷ []) Apply c.args.log.now
    c.job_claimed.new.log (search rules)

pub returns-in_default-clause-added : goal.returns-in_default-clause-added
returns-in_default-clause-added g c =
    stays g.J.Origin.given (Claim c.args.worker ∷ Commit c.args.worker ∷ []) Apply c.args.log.now
    c.job_claimed.new.log (search rules)

pub returns-in_err-done-clause-added : goal.returns-in_err-done-clause-added
returns-in_err-done-clause-added g c =
    goes_on g.J.Origin.given (Claim c.args.worker) (Commit c.args.worker ∷ []) Apply c.args.log.now
    c.job_claimed.new.log c.job_worked.new.log (search rules)
    c.job_worked.ensures.added

pub returns-clause-added : goal.returns-clause-added
returns-clause-added g c =
    goes_on g.J.Origin.given (Claim c.args.worker) (Commit c.args.worker ∷ []) Apply c.args.log.now
    c.job_claimed.new.log c.job_worked.new.log (search rules)
    c.job_worked.ensures.added
