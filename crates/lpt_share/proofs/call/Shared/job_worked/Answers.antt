-- The calls of the turn as far as it went, behind the claim.
use Rattle.std.proofs.Common.{rules, [], ◌∷◌}
use Rattle.lpt_events.specs.declared.event.Event.TheVariants.{Commit, Apply}
use Rattle.lpt_share.proofs.TurnLemmas.{stays, goes_on, itself}
use Rattle.lpt_share.proofs.call.Shared.job_worked.Goals as goal

pub returns-in_err-prepared-clause-added : goal.returns-in_err-prepared-clause-added
returns-in_err-prepared-clause-added g c =
    stays g.J.Origin.given (Commit c.args.worker ∷ []) Apply c.args.log.now c.args.log.now (itself g.J.Origin.given c.args.log.now)

pub returns-in_err-_reply-clause-added : goal.returns-in_err-_reply-clause-added
returns-in_err-_reply-clause-added g c =
    stays g.J.Origin.given (Commit c.args.worker ∷ []) Apply c.args.log.now c.job_committed.new.log
    (search rules)

pub returns-in_default-clause-added : goal.returns-in_default-clause-added
returns-in_default-clause-added g c =
    stays g.J.Origin.given (Commit c.args.worker ∷ []) Apply c.args.log.now c.job_committed.new.log
    (search rules)

pub returns-in_err-applied-clause-added : goal.returns-in_err-applied-clause-added
returns-in_err-applied-clause-added g c =
    goes_on g.J.Origin.given (Commit c.args.worker) [] Apply c.args.log.now c.job_committed.new.log
    c.repeat.new.log (search rules)
    c.repeat.ensures.added

pub returns-clause-added : goal.returns-clause-added
returns-clause-added g c =
    goes_on g.J.Origin.given (Commit c.args.worker) [] Apply c.args.log.now c.job_committed.new.log
    c.repeat.new.log (search rules)
    c.repeat.ensures.added
