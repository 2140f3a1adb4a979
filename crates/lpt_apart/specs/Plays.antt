-- The steps of two ends that the events of a world are: so whatever a world does, two ends can do.
use Rattle.std.specs.Prelude.{◌≡◌, ℕ, List, [], ◌∷◌, slice_get, Option, Some, None, ⊤}
use Rattle.std.specs.Option.{option_map_or}
use Rattle.lpt_memory.specs.Memories.{Contents}
use Rattle.lpt_events.specs.Configs.{IsConfig}
use Rattle.lpt_events.specs.Lanes.{lane_direction}
use Rattle.lpt_events.specs.declared.config.Config.{Config}
use Rattle.lpt_acts.specs.Acts.{Act}
use Rattle.lpt_acts.specs.Acts as act
use Rattle.lpt_events.specs.declared.lane.Lane.{Lane}
use Rattle.lpt_model.specs.State.{State}
use Rattle.lpt_journal.specs.Hands.{hand}
use Rattle.lpt_journal.specs.Journal.{History}
use Rattle.lpt_journal.specs.Legal.{Legal}
use Rattle.lpt_journal.specs.Link.{sent}
use Rattle.lpt_journal.specs.Replies.{history_after}
use Rattle.lpt_refinement.specs.Shows.{Shows}
use Rattle.lpt_refinement.specs.Views.{views}
use Rattle.lpt_apart.specs.Ends.{Ends, Move, Do, Free, Step, Open, Send, Plain, Finish, Accept, Tick, Expire, Claim, Commit, Apply, Retire, Restart}
use Rattle.lpt_apart.specs.Worlds.{ends_reached, CanRun}
use Rattle.lpt_apart.specs.Moves.{came_to, CanMoveAll}
use Rattle.lpt_apart.specs.Told.{log_told}

-- ---- a world's events as steps

-- the octets of the packet in a lane's hand; of an empty one there are none
abbrev pub octets_held : History → Lane → List ℕ
octets_held h l =
    option_map_or (λ n. option_map_or (λ p. p.octets) (slice_get (sent h) n) []) (hand h l) []

-- The step that an event is after this history: what a lane delivers is handed over. What the link
-- does by itself is none.
abbrev pub step_of : History → Act → Option Step
step_of h (act.Open d name m) = Some (Open d name m)
step_of h (act.Send d name k) = Some (Send d name k)
step_of h (act.Plain source flags service subtype body) =
    Some (Plain source flags service subtype body)
step_of h (act.Finish d name) = Some (Finish d name)
step_of h (act.Lose n) = None
step_of h (act.Damage d b) = None
step_of h (act.Take l n) = None
step_of h (act.Deliver l) = Some (Accept (lane_direction l) (octets_held h l))
step_of h (act.Tick side turn) = Some (Tick side turn)
step_of h (act.Expire side which) = Some (Expire side which)
step_of h (act.Claim w) = Some (Claim w)
step_of h (act.Commit w) = Some (Commit w)
step_of h (act.Apply how) = Some (Apply how)
step_of h (act.Retire d name) = Some (Retire d name)
step_of h (act.Restart side) = Some (Restart side)

-- steps with one more, or none
abbrev pub with_step : Option Step → List Step → List Step
with_step None xs = xs
with_step (Some x) xs = x ∷ xs

-- the steps that a journal is
abbrev pub steps_of : Config → Contents → List Act → List Step
steps_of c first [] = []
steps_of c first (e ∷ es) = with_step (step_of (history_after c first es) e) (steps_of c first es)

-- two ends have the nodes, jobs and memories of a world that shows this journal, and its log
pub record AreEndsOf (c : Config) (first : Contents) (es : List Act) (e : Ends) : Type 0 where
  pub world : State
  pub shown : Shows world (views c first (history_after c first es))
  pub ground : world.on_ground ≡ e.on_ground
  pub craft : world.on_craft ≡ e.on_craft
  pub tickets : world.tickets ≡ e.tickets
  pub memories : world.memories ≡ e.memories
  pub log : log_told c (history_after c first es) ≡ e.log

-- two ends can do the steps that a journal is, and then have what a world has
pub record AreSteps (c : Config) (first : Contents) (es : List Act) : Type 0 where
  pub can : CanRun c first (steps_of c first es)
  pub are : AreEndsOf c first es (ends_reached c first (steps_of c first es))

-- no clock is set back by an act, as none is in a world
abbrev pub IsForward : Act → Type 0
IsForward (act.Tick side (act.Back n)) = ⊥
IsForward _ = ⊤

abbrev pub AllForward : List Act → Type 0
AllForward [] = ⊤
AllForward (e ∷ es) = IsForward e × AllForward es

-- whatever a world does
abbrev pub WorldsAreEnds : Type 0
WorldsAreEnds =
    (c : Config) (first : Contents) (es : List Act)
    → IsConfig c
    → AllForward es
    → Legal c first es
    → AreSteps c first es

-- ---- steps as moves

-- the moves that steps are: a name is freed at its receiver, and then at its sender
abbrev pub moves_of : List Step → List Move
moves_of [] = []
moves_of (Retire d name ∷ xs) = Do (Retire d name) ∷ Free d name ∷ moves_of xs
moves_of (x ∷ xs) = Do x ∷ moves_of xs

-- two ends can do the moves that steps are, and then have what they would have by the steps
pub record AreMoves (c : Config) (first : Contents) (xs : List Step) : Type 0 where
  pub can : CanMoveAll c first (moves_of xs)
  pub ends : (came_to c first (moves_of xs)).ends ≡ ends_reached c first xs

-- whatever they can do
abbrev pub StepsAreMoves : Type 0
StepsAreMoves =
    (c : Config) (first : Contents) (xs : List Step) → CanRun c first xs → AreMoves c first xs
