use Rattle.std.proofs.Common.{◌≢◌, ℕ, ◌<◌, ◌≤◌, length, get_or}
use Rattle.lpt_table.proofs.SpotLemmas.{none}
use Rattle.lpt_table.proofs.places.spot_of.Given as goal

-- none of the places that were looked at has the name
abbrev pub invariant-loop-at : goal.invariant-loop-at
invariant-loop-at l =
    (k : ℕ) → l.at ≤ k → k < length l.places → (get_or l.places k none).name ≢ l.name
