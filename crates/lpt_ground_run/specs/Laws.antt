-- A pass in several processes.
use Rattle.std.specs.Prelude.{◌≡◌, ◌⊎◌, ℕ, Bool, List, Option, Some, slice_get}
use Rattle.lpt_ground.specs.declared.asked.Terms.{Terms}
use Rattle.lpt_ground.specs.declared.pass.End.{End}
use Rattle.lpt_ground.specs.Passes.{PassState}
use Rattle.lpt_ground_run.specs.Carried.{CameTo}
use Rattle.lpt_ground_run.specs.Handing.{IsPacketOf}
use Rattle.lpt_ground_run.specs.Keeping.{HearsAgain}

-- octets are one of these packets
abbrev pub IsAmong : List (List ℕ) → List ℕ → Type 0
IsAmong packets o = (k : ℕ) × (slice_get packets k ≡ Some o)

-- a pass that heard again what was kept, and was carried to its end, was carried there from its
-- beginning, by packets that were kept and such as came
abbrev pub KeptRunsAreOnePass : Type 0
KeptRunsAreOnePass =
    (longest : ℕ) (down : Option (List ℕ)) (terms : Terms) (s t u : PassState) (octets : List ℕ)
    (all : Bool) (old new : Option (List ℕ)) (end : End)
    → (h : HearsAgain terms s t octets all)
    → CameTo (IsPacketOf longest down) terms t u old new end
    → CameTo (λ (o : List ℕ). IsPacketOf longest down o ⊎ IsAmong h.packets o) terms s u
    old new end
