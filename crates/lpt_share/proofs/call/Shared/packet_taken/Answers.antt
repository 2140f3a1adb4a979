-- It was asked for after the log had its place.
use Rattle.lpt_events.specs.declared.event.Event.TheVariants.{Take}
use Rattle.lpt_share.proofs.DoingLemmas.{asked}
use Rattle.lpt_share.proofs.call.Shared.packet_taken.Goals as goal

pub returns-clause-asked : goal.returns-clause-asked
returns-clause-asked g c =
    asked g.J.Origin.given (Take c.args.lane c.args.n) _ _ c.args.log.now c.make_place.new.self c.take.new.log c.take.result
    c.take.ensures.goes_on c.take.ensures.legal c.make_place.ensures.seat c.make_place.ensures.seen c.make_place.ensures.calls c.take.ensures.one
