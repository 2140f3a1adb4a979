-- Which journals are legal.
use Rattle.std.specs.Prelude.{◌≡◌, List, [], ◌∷◌, None, ⊤}
use Rattle.lpt_memory.specs.Memories.{Contents}
use Rattle.lpt_events.specs.declared.config.Config.{Config}
use Rattle.lpt_acts.specs.Acts.{Act, IsAct}
use Rattle.lpt_journal.specs.Journal.{History}
use Rattle.lpt_journal.specs.Replies.{history_after}
use Rattle.lpt_journal.specs.Refusals.{refusal}

-- an event can happen after this history
pub record IsEnabled (c : Config) (h : History) (e : Act) : Type 0 where
  pub in_range : IsAct e
  pub accepted : refusal c h e ≡ None

-- each event can happen after those before it
abbrev pub Legal : Config → Contents → List Act → Type 0
Legal c first [] = ⊤
Legal c first (e ∷ es) = Legal c first es × IsEnabled c (history_after c first es) e
