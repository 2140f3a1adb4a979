-- A request that goes up as a large message.
use Rattle.std.specs.Prelude.{◌≡◌, ◌≤◌, ◌<◌, ℕ, ◌+◌, ◌%◌, length, Option, Some, None}
use Rattle.lpt_ground.specs.Passes.{PassState}
use Rattle.lpt_ground.specs.declared.asked.Asked.{Asked}
use Rattle.lpt_ground.specs.declared.large.Names.{Names}
use Rattle.lpt_ground.specs.declared.uplink.Uplink.{Uplink}
use Rattle.lpt_ground.specs.Uplinks.{way_at_first, way_of}
use Rattle.lpt_ground_run.specs.declared.heads.Heads.{Heads}

-- the uplink begins, and what goes up is the request, which is longer than a part; its parts'
-- packets are counted behind it
pub record GoesInParts (h : Heads) (part_size : ℕ) (names : Names) (a : Asked)
    (u : Uplink) : Type 0 where
  pub long : part_size < length a.octets
  pub message : u.large.message ≡ a.octets
  pub under : u.large.names ≡ names
  pub apid : u.large.apid ≡ h.apid
  pub source : u.large.source ≡ h.source
  pub count : u.large.count ≡ (h.count + 1) % 16384
  pub size : u.large.part_size ≡ part_size
  pub begins : (s : PassState) → way_of u s ≡ way_at_first u.large s

-- how a request goes up: as it is if it is no longer than a part
abbrev pub IsUplink : Heads → (part_size : ℕ) → Names → Asked → Option Uplink → Type 0
IsUplink h p names a None = length a.octets ≤ p
IsUplink h p names a (Some u) = GoesInParts h p names a u
