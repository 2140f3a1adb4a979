-- The calls of the turn as far as it went.
use Rattle.std.proofs.Common.{rules, [], ◌∷◌}
use Rattle.lpt_events.specs.declared.event.Event.TheVariants.{Take, Deliver}
use Rattle.lpt_share.proofs.TurnLemmas.{begins, begins_none, itself}
use Rattle.lpt_share.proofs.call.Shared.lane_turn.Goals as goal

pub returns-in_err-octets-clause-added : goal.returns-in_err-octets-clause-added
returns-in_err-octets-clause-added g c =
    begins_none g.J.Origin.given (Take c.args.lane c.args.n ∷ Deliver c.args.lane ∷ [])
    c.args.log.now c.packet_taken.new.log (search rules)

pub returns-in_default-clause-added : goal.returns-in_default-clause-added
returns-in_default-clause-added g c =
    begins_none g.J.Origin.given (Take c.args.lane c.args.n ∷ Deliver c.args.lane ∷ [])
    c.args.log.now c.packet_taken.new.log (search rules)

pub returns-in_err-_reply-clause-added : goal.returns-in_err-_reply-clause-added
returns-in_err-_reply-clause-added g c =
    begins g.J.Origin.given (Take c.args.lane c.args.n) (Deliver c.args.lane ∷ []) c.args.log.now
    c.packet_taken.new.log c.packet_delivered.new.log (search rules)
    (begins_none g.J.Origin.given (Deliver c.args.lane ∷ []) c.packet_taken.new.log
    c.packet_delivered.new.log (search rules))

pub returns-in_default-2-clause-added : goal.returns-in_default-2-clause-added
returns-in_default-2-clause-added g c =
    begins g.J.Origin.given (Take c.args.lane c.args.n) (Deliver c.args.lane ∷ []) c.args.log.now
    c.packet_taken.new.log c.packet_delivered.new.log (search rules)
    (begins_none g.J.Origin.given (Deliver c.args.lane ∷ []) c.packet_taken.new.log
    c.packet_delivered.new.log (search rules))

pub returns-clause-added : goal.returns-clause-added
returns-clause-added g c =
    begins g.J.Origin.given (Take c.args.lane c.args.n) (Deliver c.args.lane ∷ []) c.args.log.now
    c.packet_taken.new.log c.packet_delivered.new.log (search rules)
    (begins g.J.Origin.given (Deliver c.args.lane) [] c.packet_taken.new.log
    c.packet_delivered.new.log c.packet_delivered.new.log (search rules)
    (begins_none g.J.Origin.given [] c.packet_delivered.new.log c.packet_delivered.new.log
    (itself g.J.Origin.given c.packet_delivered.new.log)))
