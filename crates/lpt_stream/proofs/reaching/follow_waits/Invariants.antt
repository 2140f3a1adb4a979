use Rattle.std.proofs.Common.{◌≡◌, ◌≤◌, ◌-◌, suc, drop, length}
use Rattle.lpt_stream.specs.Pieces.{follow_waits, most_in_row}
use Rattle.lpt_stream.proofs.reaching.follow_waits.Given as goal

-- so many followed one another, and what is known from there is what is known from the front
abbrev pub invariant-loop-count : goal.invariant-loop-count
invariant-loop-count l = record {
  few : l.count ≤ most_in_row;
  within : l.at ≤ length l.bytes;
  so_far : follow_waits l.longest most_in_row (suc l.longest) l.bytes
      ≡ follow_waits l.longest (most_in_row - l.count) (suc l.longest - l.at) (drop l.at l.bytes);
}
