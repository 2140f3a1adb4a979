-- The first fault of what is left is the first fault of all.
use Rattle.std.proofs.Common.{◌≡◌, drop}
use Rattle.lpt_memory.specs.Meanings.{range_fault}
use Rattle.lpt_memory.proofs.meaning.range_fault_in.Given as goal

abbrev pub invariant-loop-address : goal.invariant-loop-address
invariant-loop-address l =
    range_fault l.size (drop l.address-index l.ranges) ≡ range_fault l.size l.ranges
