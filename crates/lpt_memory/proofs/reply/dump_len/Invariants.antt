-- What is counted, with what is left, is the body's length, and it is small.
use Rattle.std.proofs.Common.{◌≡◌, ◌+◌, ◌*◌, ◌≤◌, drop, sum_by}
use Rattle.lpt_memory.specs.Meanings.{dump_length}
use Rattle.lpt_memory.proofs.reply.dump_len.Given as goal

abbrev pub invariant-loop-range : goal.invariant-loop-range
invariant-loop-range l = record {
  counted : l.len + 19 + sum_by (λ r. 8 + r.len) (drop l.range-index l.ranges)
      ≡ dump_length l.ranges;
  small : l.len ≤ 2 + 65543 * l.range-index;
}
