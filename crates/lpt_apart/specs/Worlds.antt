-- What is proved of two ends apart, whatever steps they did: they are those of a world.
use Rattle.std.specs.Prelude.{List, [], ◌∷◌, Some, ◌≡◌, ⊤, IsTrue}
use Rattle.lpt_memory.specs.Memories.{Contents}
use Rattle.lpt_events.specs.declared.config.Config.{Config}
use Rattle.lpt_model.specs.Tickets.{ticket_of}
use Rattle.lpt_acts.specs.Acts.{Back, Within, Act, act_of, Refuse, Drop}
use Rattle.lpt_memory.specs.Readings.{Job}
use Rattle.lpt_events.specs.declared.worker.Worker.{Worker}
use Rattle.lpt_node.specs.Jobs.{FrontIsFor}
use Rattle.lpt_model.specs.State.{State}
use Rattle.lpt_events.specs.Configs.{IsConfig}
use Rattle.lpt_events.specs.declared.event.Event.{Event}
use Rattle.lpt_jobs.specs.Jobs.{head_of, is_claimed}
use Rattle.lpt_journal.specs.Legal.{Legal}
use Rattle.lpt_journal.specs.Replies.{history_after}
use Rattle.lpt_refinement.specs.Shows.{Shows}
use Rattle.lpt_refinement.specs.Views.{views}
use Rattle.lpt_apart.specs.Ends.{Ends, no_ends, Step, after, Tick, Expire, Apply}
use Rattle.lpt_apart.specs.TwoEnds.{CanHappen}
use Rattle.lpt_apart.specs.Told.{log_told}

-- two ends after these steps, the newest of which stands first
abbrev pub ends_reached : Config → Contents → List Step → Ends
ends_reached c first [] = no_ends c first
ends_reached c first (x ∷ xs) = after c (ends_reached c first xs) x

-- each step can happen after those before it
abbrev pub CanRun : Config → Contents → List Step → Type 0
CanRun c first [] = ⊤
CanRun c first (x ∷ xs) = CanRun c first xs × CanHappen c (ends_reached c first xs) x

-- What the spacecraft's node asks for besides: a job that a worker has was claimed and not handed
-- in, if it is of this boot; and what would be executed was read for these memories.
pub record IsReadyNode (c : Config) (e : Ends) : Type 0 where
  pub commits : (w : Worker) (t : Job)
      → ticket_of e.tickets w ≡ Some t
      → t.boot ≡ e.on_craft.boot
      → IsTrue (is_claimed e.on_craft.jobs t.job)
  pub executes : FrontIsFor (head_of e.on_craft.jobs.jobs) c.apid e.memories

-- an act is one that an event does
pub record IsOfAnEvent (a : Act) : Type 0 where
  pub event : Event
  pub is : act_of event ≡ a

-- all are
abbrev pub AreOfEvents : List Act → Type 0
AreOfEvents [] = ⊤
AreOfEvents (a ∷ acts) = AreOfEvents acts × IsOfAnEvent a

-- a step sets no clock back, sets no limits, ends no reception before its time, and refuses or
-- drops no request
abbrev pub IsEventStep : Step → Type 0
IsEventStep (Tick side (Back n)) = ⊥
IsEventStep (Tick side (Within l)) = ⊥
IsEventStep (Expire side (Some name)) = ⊥
IsEventStep (Apply (Refuse code)) = ⊥
IsEventStep (Apply Drop) = ⊥
IsEventStep x = ⊤

-- no step does
abbrev pub AreEventSteps : List Step → Type 0
AreEventSteps [] = ⊤
AreEventSteps (x ∷ xs) = AreEventSteps xs × IsEventStep x

-- there is a legal journal, and a world that shows it has these two nodes, jobs, memories and log;
-- it is one of events alone if what was done is usual
pub record IsAWorld (c : Config) (first : Contents) (usual : Type 0) (e : Ends) : Type 0 where
  pub events : List Act
  pub world : State
  pub legal : Legal c first events
  pub shown : Shows world (views c first (history_after c first events))
  pub ground : world.on_ground ≡ e.on_ground
  pub craft : world.on_craft ≡ e.on_craft
  pub tickets : world.tickets ≡ e.tickets
  pub memories : world.memories ≡ e.memories
  pub log : log_told c (history_after c first events) ≡ e.log
  pub ready : IsReadyNode c e
  pub alone : usual → AreOfEvents events

-- whatever steps two ends did
abbrev pub EndsAreAWorld : Type 0
EndsAreAWorld =
    (c : Config) (first : Contents) (xs : List Step)
    → IsConfig c
    → CanRun c first xs
    → IsAWorld c first (AreEventSteps xs) (ends_reached c first xs)
