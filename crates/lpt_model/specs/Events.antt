-- What acts do to the two ends and the link, said of the events of a world: of the acts that they
-- are.
use Rattle.std.specs.Prelude.{ℕ, Option}
use Rattle.lpt_acts.specs.Acts.{act_of}
use Rattle.lpt_events.specs.declared.config.Config.{Config}
use Rattle.lpt_events.specs.declared.event.Event.{Event}
use Rattle.lpt_events.specs.declared.fault.StepFault.{StepFault}
use Rattle.lpt_events.specs.declared.reply.Reply.{Reply}
use Rattle.lpt_model.specs.State.{State}
use Rattle.lpt_model.specs.State as acts

-- why an event is refused
abbrev pub refusal_of : Config → State → Event → Option StepFault
refusal_of c s e = acts.refusal_of c s (act_of e)

-- what the nodes ask for besides
abbrev pub IsReady : Config → State → Event → Type 0
IsReady c s e = acts.IsReady c s (act_of e)

-- what an event at this place makes of the state, and its reply
abbrev pub after : Config → ℕ → State → Event → State × Reply
after c place s e = acts.after c place s (act_of e)
