-- Two services that no legal journal is a run of: one that releases twice for an opening, and one
-- that takes requests out of the queue in another order.
use Rattle.std.specs.Prelude.{◌≡◌, List, ◌∷◌, []}
use Rattle.lpt_packet.specs.declared.direction.Direction.{Direction}
use Rattle.lpt_packet.specs.Names.{Name}
use Rattle.lpt_acts.specs.Acts.{Leaving, Act}
use Rattle.lpt_memory.specs.Memories.{Contents}
use Rattle.lpt_events.specs.Configs.{IsConfig}
use Rattle.lpt_events.specs.declared.config.Config.{Config}
use Rattle.lpt_journal.specs.Legal.{Legal}
use Rattle.lpt_journal.specs.Replies.{entry, history_after}
use Rattle.lpt_service.specs.Served.{view, steps}
use Rattle.lpt_service.specs.Service.{Octets, Opened, Step, Release, Leave}

-- Once an event has released a large message, no message can be released under its name. What an
-- event takes out of the queue is no other than the first request that waits.
pub record WrongServicesAreRefused (c : Config) (first : Contents) (e : Act)
    (es : List Act) : Type 0 where
  pub twice : (d : Direction) (name : Name) (message other : Octets)
      → steps c (entry c first (history_after c first es) e) (history_after c first es)
      ≡ Release d name message ∷ []
      → ¬ ((view c first (history_after c first (e ∷ es))).names d name ≡ Opened other)
  pub out_of_order : (how : Leaving) (request front : Octets) (later : List Octets)
      (more : List Step)
      → steps c (entry c first (history_after c first es) e) (history_after c first es)
      ≡ Leave how request ∷ more
      → (view c first (history_after c first es)).waiting ≡ front ∷ later
      → request ≡ front

-- it holds of each event of every legal journal
abbrev pub NoneIsWrong : Type 0
NoneIsWrong =
    (c : Config) (first : Contents) (e : Act) (es : List Act)
    → IsConfig c
    → Legal c first (e ∷ es)
    → WrongServicesAreRefused c first e es
