use Rattle.std.proofs.Common.{◌≡◌, ◌≤◌, ◌-◌, drop, length}
use Rattle.lpt_stream.specs.Pieces.{most_damaged, reaches}
use Rattle.lpt_stream.proofs.reaching.reaches.Given as goal

-- so many were passed over, and where lengths lead from there is where they lead from the front
abbrev pub invariant-loop-count : goal.invariant-loop-count
invariant-loop-count l = record {
  few : l.count ≤ most_damaged;
  within : l.at ≤ length l.bytes;
  so_far : reaches l.end_counts l.longest most_damaged l.bytes
      ≡ reaches l.end_counts l.longest (most_damaged - l.count) (drop l.at l.bytes);
}
