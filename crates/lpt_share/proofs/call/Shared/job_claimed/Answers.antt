-- It was asked for after the log had its place.
use Rattle.lpt_events.specs.declared.event.Event.TheVariants.{Claim}
use Rattle.lpt_share.proofs.DoingLemmas.{asked}
use Rattle.lpt_share.proofs.call.Shared.job_claimed.Goals as goal

pub returns : goal.returns
returns g c =
    asked g.J.Origin.given (Claim c.args.worker) _ _ c.args.log.now c.make_place.new.self c.claim.new.log c.claim.result
    c.claim.ensures.goes_on c.claim.ensures.legal c.make_place.ensures.seat c.make_place.ensures.seen c.make_place.ensures.calls c.claim.ensures.one
