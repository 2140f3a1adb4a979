use Rattle.std.proofs.Common.{◌≡◌, ◌≤◌, ◌-◌, suc, drop, length}
use Rattle.lpt_stream.specs.Pieces.{follows, most_in_row}
use Rattle.lpt_stream.proofs.reaching.follows.Given as goal

-- so many followed one another, and how far they do from there is how far they do from the front
abbrev pub invariant-loop-count : goal.invariant-loop-count
invariant-loop-count l = record {
  few : l.count ≤ most_in_row;
  within : l.at ≤ length l.bytes;
  so_far : follows l.end_counts l.longest most_in_row (suc l.longest) l.bytes
      ≡ follows l.end_counts l.longest (most_in_row - l.count) (suc l.longest - l.at)
      (drop l.at l.bytes);
}
