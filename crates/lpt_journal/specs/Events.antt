-- What is said of acts, said of the events of a world: of the acts that they are.
use Rattle.std.specs.Prelude.{List, Option}
use Rattle.lpt_acts.specs.Acts.{act_of}
use Rattle.lpt_memory.specs.Memories.{Contents}
use Rattle.lpt_events.specs.declared.config.Config.{Config}
use Rattle.lpt_events.specs.declared.entry.Opening.{Opening}
use Rattle.lpt_events.specs.declared.event.Event.{Event}
use Rattle.lpt_events.specs.declared.fault.StepFault.{StepFault}
use Rattle.lpt_events.specs.declared.reply.Answer.{Answer}
use Rattle.lpt_events.specs.declared.reply.Reply.{Reply}
use Rattle.lpt_journal.specs.Journal.{History, Recorded, SentPacket}
use Rattle.lpt_journal.specs.Legal as acts_legal
use Rattle.lpt_journal.specs.Refusals as acts_refused
use Rattle.lpt_journal.specs.Replies as acts_replied

-- why an event is refused
abbrev pub refusal : Config → History → Event → Option StepFault
refusal c h e = acts_refused.refusal c h (act_of e)

-- an event can happen after this history
abbrev pub IsEnabled : Config → History → Event → Type 0
IsEnabled c h e = acts_legal.IsEnabled c h (act_of e)

-- what is particular to an event in its reply
abbrev pub answer : Config → Contents → History → Event → Answer
answer c first h e = acts_replied.answer c first h (act_of e)

-- the packets that an event puts on the link
abbrev pub puts : Config → Contents → History → Event → List SentPacket
puts c first h e = acts_replied.puts c first h (act_of e)

-- the transactions that an event opens
abbrev pub opens : Config → Contents → History → Event → List Opening
opens c first h e = acts_replied.opens c first h (act_of e)

-- what an event answers
abbrev pub reply : Config → Contents → History → Event → Reply
reply c first h e = acts_replied.reply c first h (act_of e)

-- an event with what it gives after this history
abbrev pub entry : Config → Contents → History → Event → Recorded
entry c first h e = acts_replied.entry c first h (act_of e)
