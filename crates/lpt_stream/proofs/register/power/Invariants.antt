use Rattle.std.proofs.Common.{◌≡◌, ◌/◌, ◌≤◌, ◌^◌}
use Rattle.lpt_stream.specs.Registers.{zeros_in}
use Rattle.lpt_stream.proofs.register.power.Given as goal

-- the number's bits from this place on are those of as many zeros
abbrev pub invariant-loop-place : goal.invariant-loop-place
invariant-loop-place l = record {
  within : l.place ≤ 17;
  so_far : l.power ≡ zeros_in 1 (l.count / 2 ^ l.place);
}

abbrev pub decreases-loop-place : goal.decreases-loop-place
decreases-loop-place l = l.place
