-- What a state that shows a journal does: what the journal says.
use Rattle.std.specs.Prelude.{◌≡◌, [], ◌∷◌, length, map, None}
use Rattle.lpt_events.specs.Arrivals.{part_name}
use Rattle.lpt_events.specs.declared.config.Config.{Config}
use Rattle.lpt_acts.specs.Acts.{Act}
use Rattle.lpt_events.specs.Configs.{IsConfig}
use Rattle.lpt_memory.specs.Memories.{Contents}
use Rattle.lpt_journal.specs.Hands.{arrival_of}
use Rattle.lpt_journal.specs.Journal.{History}
use Rattle.lpt_journal.specs.Link.{sent, tags}
use Rattle.lpt_journal.specs.Refusals.{refusal}
use Rattle.lpt_journal.specs.Replies.{reply, entry}
use Rattle.lpt_journal.specs.Jobs.{ticket}
use Rattle.lpt_refinement.specs.Shows.{Shows, JobsFit}
use Rattle.lpt_model.specs.State.{State, no_state, refusal_of, IsReady, after}
use Rattle.lpt_refinement.specs.Views.{jobs_view, views}

-- each packet has the tag of the transaction of which it is a part
abbrev pub AreNamed : Config → History → Type 0
AreNamed c h = tags h ≡ map (λ p. part_name (arrival_of c p)) (sent h)

-- what holds of every legal journal besides
pub record Fits (c : Config) (first : Contents) (h : History) : Type 0 where
  pub jobs : JobsFit (jobs_view c first h) (ticket c h)
  pub tags : AreNamed c h

-- an event that isn't refused can be done, is answered as the journal says, and the longer journal
-- is shown
pub record GoesOn (c : Config) (first : Contents) (s : State) (h : History) (e : Act)
    : Type 0 where
  pub ready : IsReady c s e
  pub answered : (after c (length h) s e).1 ≡ reply c first h e
  pub shown : Shows (after c (length h) s e).0 (views c first (entry c first h e ∷ h))

-- if nothing has happened, the empty journal is shown; what shows a journal that fits refuses what
-- the journal refuses, and goes on with it
pub record FollowsJournal : Type 0 where
  pub begins : (c : Config) (first : Contents) → Shows (no_state c first) (views c first [])
  pub refuses : (c : Config) (first : Contents) (s : State) (h : History) (e : Act)
      → Shows s (views c first h)
      → Fits c first h
      → refusal_of c s e ≡ refusal c h e
  pub goes_on : (c : Config) (first : Contents) (s : State) (h : History) (e : Act)
      → IsConfig c
      → Shows s (views c first h)
      → Fits c first h
      → refusal c h e ≡ None
      → GoesOn c first s h e
