-- It was asked for after the log had its place.
use Rattle.lpt_events.specs.declared.event.Event.TheVariants.{Commit}
use Rattle.lpt_share.proofs.DoingLemmas.{asked}
use Rattle.lpt_share.proofs.call.Shared.job_committed.Goals as goal

pub returns-in-Ok : goal.returns-in-Ok
returns-in-Ok g c =
    asked g.J.Origin.given (Commit c.args.worker) _ _ c.args.log.now c.make_place.new.self c.commit.new.log c.commit.result
    c.commit.ensures.goes_on c.commit.ensures.legal c.make_place.ensures.seat c.make_place.ensures.seen c.make_place.ensures.calls c.commit.ensures.one
