-- What a pass doesn't hear.
use Rattle.std.specs.Prelude.{◌≡◌, ◌≢◌, List, ℕ, Some}
use Rattle.lpt_pus.specs.Telemetry.{Telemetry, telemetry_in}
use Rattle.lpt_ground.specs.declared.asked.Terms.{Terms}
use Rattle.lpt_ground.specs.Passes.{PassState, octets_heard}

-- telemetry to another source leaves a pass as it is
abbrev pub OtherSourcesLeaveThePass : Type 0
OtherSourcesLeaveThePass =
    (terms : Terms) (s : PassState) (o : List ℕ) (t : Telemetry)
    → telemetry_in terms.apid o ≡ Some t
    → t.destination ≢ terms.source
    → octets_heard terms s o ≡ s
