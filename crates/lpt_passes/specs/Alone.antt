-- A request that ground asked for under a source and a request ID that it gave to no other.
use Rattle.std.specs.Prelude.{◌≡◌, ℕ, List, slice_get, Some}
use Rattle.lpt_packet.specs.declared.direction.Direction.TheVariants.{Up}
use Rattle.lpt_pus.specs.Numbers.{long_at}
use Rattle.lpt_memory.specs.Memories.{Contents}
use Rattle.lpt_events.specs.Configs.{IsConfig}
use Rattle.lpt_events.specs.declared.config.Config.{Config}
use Rattle.lpt_events.specs.declared.entry.Opening.{Opening}
use Rattle.lpt_acts.specs.Acts.{Act}
use Rattle.lpt_execution.specs.Reporting.{request_source}
use Rattle.lpt_journal.specs.Headline.{WasAsked}
use Rattle.lpt_journal.specs.Journal.{History}
use Rattle.lpt_journal.specs.Legal.{Legal}
use Rattle.lpt_journal.specs.Replies.{history_after}
use Rattle.lpt_journal.specs.Senders.{opened}
use Rattle.lpt_passes.specs.Reported.{WasCarriedOut}

-- octets have this source and this request ID
pub record IsNamed (c : Config) (from request : ℕ) (b : List ℕ) : Type 0 where
  pub of_source : request_source c.apid b ≡ from
  pub is_request : long_at b 0 ≡ request

-- whatever ground asked for by a plain request, or opened as a large one, under these is this
-- message
pub record IsAlone (c : Config) (h : History) (from request : ℕ) (m : List ℕ) : Type 0 where
  pub plain : (b : List ℕ) → WasAsked c h b → IsNamed c from request b → b ≡ m
  pub large : (k : ℕ) (o : Opening)
      → slice_get (opened h) k ≡ Some o
      → o.direction ≡ Up
      → IsNamed c from request o.message
      → o.message ≡ m

-- what was carried out under these is it
abbrev pub CarriedOutIsAlone : Type 0
CarriedOutIsAlone =
    (c : Config) (first : Contents) (es : List Act) (from request : ℕ) (m : List ℕ)
    → IsConfig c
    → Legal c first es
    → IsAlone c (history_after c first es) from request m
    → (done : WasCarriedOut c first (history_after c first es) from request)
    → done.release.message ≡ m
