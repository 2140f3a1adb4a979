-- Two ends are tied to a world that shows a legal journal, and each event leads on.
use Rattle.std.proofs.Common.{◌≡◌, ◌∙◌, sym, ℕ, Bool, ◌∷◌, List, length, None, arith}
use Rattle.std.proofs.lemmas.List.{length-map}
use Rattle.lpt_packet.specs.declared.direction.Direction.{Direction}
use Rattle.lpt_packet.specs.Names.{Name}
use Rattle.lpt_memory.specs.Memories.{Contents}
use Rattle.lpt_events.specs.Configs.{IsConfig}
use Rattle.lpt_acts.specs.Acts.{IsAct, Act}
use Rattle.lpt_events.specs.declared.config.Config.{Config}
use Rattle.lpt_events.specs.declared.entry.Release.{Release}
use Rattle.lpt_events.specs.declared.lane.Lane.{Lane}
use Rattle.lpt_link.specs.Links.{hand_of}
use Rattle.lpt_model.specs.State.{State, after, refusal_of, IsReady}
use Rattle.lpt_refinement.specs.GoesOn.{Fits}
use Rattle.lpt_refinement.specs.Shows.{Shows, JobsFit}
use Rattle.lpt_refinement.specs.Views.{views, jobs_view}
use Rattle.lpt_journal.specs.Jobs.{jobs, ticket}
use Rattle.lpt_journal.specs.Journal.{History}
use Rattle.lpt_journal.specs.Legal.{Legal}
use Rattle.lpt_journal.specs.Refusals.{refusal}
use Rattle.lpt_journal.specs.Replies.{reply, history_after}
use Rattle.lpt_journal.specs.Whole.{came}
use Rattle.lpt_refinement.proofs.Follows.{follows}
use Rattle.lpt_journal.proofs.HeadlineLemmas.{every}
use Rattle.lpt_journal.proofs.TicketSteps.{jobs_sound}
use Rattle.lpt_apart.specs.Ends.{PutOut, Ends, Log}
use Rattle.lpt_apart.specs.Worlds.{AreOfEvents}
use Rattle.lpt_apart.specs.Told.{log_told}
use Rattle.lpt_apart.proofs.Links.{AllHeld}

-- ---- what is tied

-- two ends with a world's nodes, jobs and memories
abbrev pub ends_of : State → List PutOut → Log → Ends
ends_of s ways log = record {
  on_ground = s.on_ground;
  on_craft = s.on_craft;
  tickets = s.tickets;
  memories = s.memories;
  on_the_way = ways;
  log = log;
}

-- a world shows a legal journal, no lane has a packet, all that may be handed over is held, and the
-- journal tells this log; it is of events alone if what was done is usual
pub record IsTied (c : Config) (first : Contents) (usual : Type 0) (s : State)
    (ways : List PutOut) (log : Log)
    (es : List Act) : Type 0 where
  pub legal : Legal c first es
  pub shown : Shows s (views c first (history_after c first es))
  pub hands : (l : Lane) → hand_of s.link l ≡ None
  pub held : AllHeld s.link.packets ways
  pub tells : log_told c (history_after c first es) ≡ log
  pub alone : usual → AreOfEvents es

-- two ends are tied to some world
pub record Follows (c : Config) (first : Contents) (usual : Type 0) (e : Ends) : Type 0 where
  pub state : State
  pub events : List Act
  pub tied : IsTied c first usual state e.on_the_way e.log events
  pub is : ends_of state e.on_the_way e.log ≡ e

-- which parts of which transactions came
abbrev pub Came : Type 0
Came = Direction → Name → (k : ℕ) → Bool

-- two ends follow a world to which these parts came
pub record Leads (c : Config) (first : Contents) (usual : Type 0) (e : Ends) (parts : Came)
    : Type 0 where
  pub follows : Follows c first usual e
  pub comes : (d : Direction) (name : Name) (k : ℕ)
      → came c (history_after c first follows.events) d name k ≡ parts d name k

-- ---- legal journals fit

jobs_fit : (c : Config) (first : Contents) (es : List Act)
    → Legal c first es
    → JobsFit (jobs_view c first (history_after c first es)) (ticket c (history_after c first es))
jobs_fit c first es legal =
    let h : History = history_after c first es in
    let sound = jobs_sound c first es legal in
    record {
      executed = sound.applied_fits;
      claimed = omega (
        arith,
        sound.claimed_fits,
        length-map (jobs c h)
            (λ (r : Release). r.message),
      );
      committed = sound.committed;
      held = λ w t is same.
          let out = (sound.tickets w t is).out same in
          record {
            out = record {
              not_executed = out.waits;
              is_claimed = out.was_claimed;
              not_committed = out.uncommitted;
            };
            message = out.message;
          };
    }

fits : (c : Config) (first : Contents) (es : List Act)
    → IsConfig c
    → Legal c first es
    → Fits c first (history_after c first es)
fits c first es good legal = record {
  jobs = jobs_fit c first es legal;
  tags = (every c first es good legal).0.names;
}

-- ---- one event more

-- the journal is legal with one event more, which is answered as it says, and is shown; what the
-- nodes ask for besides holds
pub record IsLonger (c : Config) (first : Contents) (s : State) (es : List Act)
    (e : Act) : Type 0 where
  pub ready : IsReady c s e
  pub answered : (after c (length (history_after c first es)) s e).1
      ≡ reply c first (history_after c first es) e
  pub legal : Legal c first (e ∷ es)
  pub shown : Shows (after c (length (history_after c first es)) s e).0
      (views c first (history_after c first (e ∷ es)))

-- what a world that shows a journal doesn't refuse can be done
pub longer : (c : Config) (first : Contents) (s : State) (es : List Act) (e : Act)
    → IsConfig c
    → Legal c first es
    → Shows s (views c first (history_after c first es))
    → IsAct e
    → refusal_of c s e ≡ None
    → IsLonger c first s es e
longer c first s es e good legal shown ranged free =
    let h : History = history_after c first es in
    let fit : Fits c first h = fits c first es good legal in
    let accepted : refusal c h e ≡ None = sym (follows.refuses c first s h e shown fit) ∙ free in
    let goes = follows.goes_on c first s h e good shown fit accepted in
    record {
      ready = goes.ready;
      answered = goes.answered;
      legal = (legal, record { in_range = ranged; accepted = accepted });
      shown = goes.shown;
    }

-- a world that shows a journal doesn't refuse what is legal after it
pub not_refused : (c : Config) (first : Contents) (s : State) (es : List Act) (e : Act)
    → IsConfig c
    → Shows s (views c first (history_after c first es))
    → Legal c first (e ∷ es)
    → refusal_of c s e ≡ None
not_refused c first s es e good shown legal =
    follows.refuses c first s (history_after c first es) e shown (fits c first es good legal.0)
    ∙ legal.1.accepted
