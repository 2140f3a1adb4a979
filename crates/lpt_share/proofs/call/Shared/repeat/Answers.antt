-- One call more.
use Rattle.std.proofs.Common.{rules}
use Rattle.lpt_share.proofs.TurnLemmas.{left_more, one_more}
use Rattle.lpt_share.specs.Turns.{again_event}
use Rattle.lpt_share.proofs.call.Shared.repeat.Goals as goal

pub loop-preserved : goal.loop-preserved
loop-preserved g c =
    one_more g.J.Origin.given (again_event c.args.again) c.event.result c.args.log.now c.loop.log c.ask.new.log c.loop.count c.in-Some-2._reply c.ask.result
    (search rules) (search rules) c.ask.ensures c.loop.invariant

-- the last call was not accepted
pub returns-in_err-_reply-clause-added : goal.returns-in_err-_reply-clause-added
returns-in_err-_reply-clause-added g c =
    left_more g.J.Origin.given (again_event c.args.again) c.args.log.now c.loop.log c.ask.new.log c.loop.invariant.0 (search rules)

pub returns-in_default-clause-added : goal.returns-in_default-clause-added
returns-in_default-clause-added g c =
    left_more g.J.Origin.given (again_event c.args.again) c.args.log.now c.loop.log c.ask.new.log c.loop.invariant.0 (search rules)
