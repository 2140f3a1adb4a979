-- What is counted, with what is left, is the body's length, which is short enough.
use Rattle.std.proofs.Common.{◌≡◌, ◌+◌, ◌≤◌, drop, length, sum_by}
use Rattle.lpt_memory.specs.Spellings.{load_length}
use Rattle.lpt_memory.proofs.writing.body_len.Given as goal

abbrev pub invariant-loop-area : goal.invariant-loop-area
invariant-loop-area l = record {
  counted : l.len + 13 + sum_by (λ a. 8 + length a.octets) (drop l.area-index l.areas)
      ≡ load_length l.areas;
  short : load_length l.areas ≤ 65542;
}
