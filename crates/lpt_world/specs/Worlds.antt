-- A world as its readers show it: its configuration, the first content of its memories, and its
-- journal.
use Rattle.std.specs.Prelude.{◌≡◌, ◌≤◌, ℕ, nat_lt, if◌then◌else◌, List, [], ◌∷◌, ◌++◌, map, reverse, Option, Some, None}
use Rattle.std.specs.List.{All}
use Rattle.lpt_ledger.specs.declared.state.State.{State}
use Rattle.lpt_ledger.specs.declared.state.State.TheVariants.{Free, Open, Closed}
use Rattle.lpt_memory.specs.Memories.{Contents}
use Rattle.lpt_acts.specs.Acts.{Act, act_of}
use Rattle.lpt_events.specs.declared.config.Config.{Config}
use Rattle.lpt_events.specs.declared.entry.Entry.{Entry}
use Rattle.lpt_events.specs.declared.event.Event.{Event}
use Rattle.lpt_events.specs.declared.fault.StepFault.{StepFault}
use Rattle.lpt_events.specs.declared.fault.StepFault.TheVariants.{NoSuchSeat, Memory}
use Rattle.lpt_events.specs.declared.reply.Reply.{Reply}
use Rattle.lpt_journal.specs.Journal.{History}
use Rattle.lpt_journal.specs.Senders.{Sender, FreeSender, OpenSender, ClosedSender}
use Rattle.lpt_journal.specs.Jobs.{memories}
use Rattle.lpt_journal.specs.Abortions.{EndsAreFinal}
use Rattle.lpt_journal.specs.Headline.{Holds}
use Rattle.lpt_journal.specs.Legal.{Legal}
use Rattle.lpt_journal.specs.Whole.{WholeIsReleased}
use Rattle.lpt_journal.specs.Work.{WorkKeepsItsBoot}
use Rattle.lpt_journal.specs.Replies.{history_after}
use Rattle.lpt_journal.specs.Events.{refusal, reply}

-- the configuration, the memories as they were first, and the journal with its oldest entry first
pub record Shown : Type 0 where
  pub config : Config
  pub first : Contents
  pub journal : List Entry

-- a world in which nothing has happened
abbrev pub new_world : Config → Contents → Shown
new_world c first = record { config = c; first = first; journal = [] }

-- the events of a journal as acts, the newest first
abbrev pub events_of : List Entry → List Act
events_of j = reverse (map (λ x. act_of x.event) j)

-- what a journal tells under a configuration, over the first content of memories
abbrev pub history_of : Config → Contents → List Entry → History
history_of c first j = history_after c first (events_of j)

-- what a world's journal tells
abbrev pub history : Shown → History
history w = history_of w.config w.first w.journal

-- a world's memories now
abbrev pub memories_now : Shown → Contents
memories_now w = memories w.config w.first (history w)

-- a journal is told: its events are legal, each reply is the one that its event gives then, and
-- each seat is one of 0 to 10
pub record IsTold (c : Config) (first : Contents) (j : List Entry) : Type 0 where
  pub legal : Legal c first (events_of j)
  pub replies : map (λ x. x.reply) j ≡ reverse (map (λ x. x.reply) (history_of c first j))
  pub seats : All (λ x. x.seat ≤ 10) j

-- What is promised of a world, whatever the link did and the nodes were asked: the headline; that
-- what expired, was broken off or was released is final; that nothing that came whole is withheld;
-- and that no job is done outside the boot of its release.
pub record Promised (w : Shown) : Type 0 where
  pub headline : Holds w.config w.first (history w)
  pub final : EndsAreFinal w.config (history w)
  pub whole : WholeIsReleased w.config (history w)
  pub work : WorkKeepsItsBoot w.config w.first (history w)

-- a sender's state, without its message
abbrev pub state_shown : Sender → State
state_shown FreeSender = Free
state_shown (OpenSender m) = Open
state_shown ClosedSender = Closed

-- why a world refuses a seat's event: there are seats 0 to 10
abbrev pub refusal_at : Shown → ℕ → Event → Option StepFault
refusal_at w seat e = if nat_lt 10 seat then Some NoSuchSeat else refusal w.config (history w) e

-- the fault is the first reason, or out of memory if there is none
abbrev pub RefusedBy : Option StepFault → StepFault → Type 0
RefusedBy (Some first) fault = fault ≡ first
RefusedBy None fault = fault ≡ Memory

-- the world with an entry behind its journal
abbrev pub with_entry : Shown → ℕ → Event → Reply → Shown
with_entry w seat e r =
    record w { journal = w.journal ++ record { seat = seat; event = e; reply = r } ∷ [] }

-- ---- runs

-- the world after these events of one seat, each of which was accepted
abbrev pub events_entered : Shown → ℕ → List Event → Shown
events_entered w seat [] = w
events_entered w seat (e ∷ es) =
    events_entered (with_entry w seat e (reply w.config w.first (history w) e)) seat es

-- each of these events is accepted after those before it
abbrev pub AllAccepted : Shown → ℕ → List Event → Type 0
AllAccepted w seat [] = Unit {0}
AllAccepted w seat (e ∷ es) =
    (refusal_at w seat e ≡ None)
    × AllAccepted (with_entry w seat e (reply w.config w.first (history w) e)) seat es

-- the fault of the event, if there is one
abbrev pub IsFaultOf : Shown → ℕ → Option Event → StepFault → Type 0
IsFaultOf w seat None fault = ⊥
IsFaultOf w seat (Some e) fault = RefusedBy (refusal_at w seat e) fault
