use Rattle.std.proofs.Common.{◌≡◌, ◌≤◌, ◌-◌, drop, length}
use Rattle.lpt_stream.specs.Pieces.{most_damaged, reach_waits}
use Rattle.lpt_stream.proofs.reaching.reach_waits.Given as goal

-- so many were passed over, and what is known from there is what is known from the front
abbrev pub invariant-loop-count : goal.invariant-loop-count
invariant-loop-count l = record {
  few : l.count ≤ most_damaged;
  within : l.at ≤ length l.bytes;
  so_far : reach_waits l.longest most_damaged l.bytes
      ≡ reach_waits l.longest (most_damaged - l.count) (drop l.at l.bytes);
}
