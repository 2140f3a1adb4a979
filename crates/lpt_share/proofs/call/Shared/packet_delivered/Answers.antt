-- It was asked for after the log had its place.
use Rattle.lpt_events.specs.declared.event.Event.TheVariants.{Deliver}
use Rattle.lpt_share.proofs.DoingLemmas.{asked}
use Rattle.lpt_share.proofs.call.Shared.packet_delivered.Goals as goal

pub returns : goal.returns
returns g c =
    asked g.J.Origin.given (Deliver c.args.lane) _ _ c.args.log.now c.make_place.new.self c.deliver.new.log c.deliver.result
    c.deliver.ensures.goes_on c.deliver.ensures.legal c.make_place.ensures.seat c.make_place.ensures.seen c.make_place.ensures.calls c.deliver.ensures.one
