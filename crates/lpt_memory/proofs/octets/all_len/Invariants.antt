-- What is counted, with what is left, is all, and it is small.
use Rattle.std.proofs.Common.{◌≡◌, ◌+◌, ◌*◌, ◌≤◌, drop}
use Rattle.lpt_memory.specs.Given.{all_length}
use Rattle.lpt_memory.proofs.octets.all_len.Given as goal

abbrev pub invariant-loop-range : goal.invariant-loop-range
invariant-loop-range l = record {
  counted : l.len + all_length (drop l.range-index l.ranges) ≡ all_length l.ranges;
  small : l.len ≤ 65535 * l.range-index;
}
