-- A part that comes alone.
use Rattle.std.proofs.Common.{◌≡◌, ap, ℕ, ◌+◌, not, ◌==◌}
use Rattle.lpt_reception.specs.Received.{no_parts, greatest}
use Rattle.lpt_reception.proofs.GreatestLemmas.{greatest_none}

-- where nothing is kept, the next part is the first
pub gap_alone : (n : ℕ) → not (n == greatest no_parts + 1) ≡ not (n == 1)
gap_alone n = ap (λ g. not (n == g + 1)) greatest_none
