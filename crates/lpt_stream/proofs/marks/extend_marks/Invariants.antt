use Rattle.std.proofs.Common.{◌<◌, ◌-◌, ◌+◌, length}
use Rattle.lpt_stream.specs.Registers.{AreMarks}
use Rattle.lpt_stream.proofs.marks.extend_marks.Given as goal

abbrev pub invariant-loop-count : goal.invariant-loop-count
invariant-loop-count l = record {
  are : AreMarks l.count l.room l.octets;
  some : 0 < l.count;
  room : l.last < length l.room;
}

abbrev pub decreases-loop-count : goal.decreases-loop-count
decreases-loop-count l = l.last + 1 - l.count
