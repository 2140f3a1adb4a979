-- The calls of the turn as far as it went.
use Rattle.std.proofs.Common.{rules, [], ◌∷◌}
use Rattle.lpt_events.specs.declared.event.Event.TheVariants.{Tick, Expire}
use Rattle.lpt_share.proofs.TurnLemmas.{stays, goes_on}
use Rattle.lpt_share.proofs.call.Shared.timer_turn.Goals as goal

pub returns-in_err-_reply-clause-added : goal.returns-in_err-_reply-clause-added
returns-in_err-_reply-clause-added g c =
    stays g.J.Origin.given (Tick c.args.node ∷ []) (Expire c.args.node) c.args.log.now c.ask.new.log (search rules)

pub returns-in_default-clause-added : goal.returns-in_default-clause-added
returns-in_default-clause-added g c =
    stays g.J.Origin.given (Tick c.args.node ∷ []) (Expire c.args.node) c.args.log.now c.ask.new.log (search rules)

pub returns-in_err-expired-clause-added : goal.returns-in_err-expired-clause-added
returns-in_err-expired-clause-added g c =
    goes_on g.J.Origin.given (Tick c.args.node) [] (Expire c.args.node) c.args.log.now c.ask.new.log c.repeat.new.log (search rules)
    c.repeat.ensures.added

pub returns-clause-added : goal.returns-clause-added
returns-clause-added g c =
    goes_on g.J.Origin.given (Tick c.args.node) [] (Expire c.args.node) c.args.log.now c.ask.new.log c.repeat.new.log (search rules)
    c.repeat.ensures.added
