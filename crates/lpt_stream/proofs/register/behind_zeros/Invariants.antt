use Rattle.std.proofs.Common.{◌≡◌, ◌/◌, ◌≤◌, ◌^◌, ℕ}
use Rattle.lpt_stream.specs.Registers.{zeros_in}
use Rattle.lpt_stream.proofs.register.behind_zeros.Given as goal

-- the bits from this place on are summed
abbrev pub invariant-loop-place : goal.invariant-loop-place
invariant-loop-place l = record {
  within : l.place ≤ 16;
  summed : (n : ℕ) → l.of_one ≡ zeros_in 1 n → l.sum ≡ zeros_in (l.register / 2 ^ l.place) n;
}

abbrev pub decreases-loop-place : goal.decreases-loop-place
decreases-loop-place l = l.place
