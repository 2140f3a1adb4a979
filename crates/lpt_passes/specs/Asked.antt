-- What was executed is ground's, by the log of two ends.
use Rattle.std.specs.Prelude.{◌≡◌, ◌⊎◌, ℕ, List, slice_get, Some}
use Rattle.lpt_packet.specs.declared.direction.Direction.TheVariants.{Up}
use Rattle.lpt_packet.specs.Names.{Name}
use Rattle.lpt_apart.specs.Ends.{Log, Opened, Asked}
use Rattle.lpt_apart.specs.TwoEnds.{requests_executed, AllDue}

-- ground asked for the message by a plain request, or opened it as a large one
abbrev pub IsOfGroundIn : Log → List ℕ → Type 0
IsOfGroundIn log m =
    ((k : ℕ) × (slice_get log k ≡ Some (Asked m)))
    ⊎ ((k : ℕ) × (name : Name) × (slice_get log k ≡ Some (Opened Up name m)))

-- each request that a log has as executed is ground's, if each of its facts was due
abbrev pub ExecutedWasAsked : Type 0
ExecutedWasAsked =
    (log : Log) (k : ℕ) (m : List ℕ)
    → AllDue log
    → slice_get (requests_executed log) k ≡ Some m
    → IsOfGroundIn log m
