use Rattle.std.proofs.Common.{◌<◌, ◌≤◌, ◌-◌, ◌+◌, length}
use Rattle.lpt_stream.specs.Registers.{AreRegisters, most_registers}
use Rattle.lpt_stream.proofs.search.extend_registers.Given as goal

abbrev pub invariant-loop-registers : goal.invariant-loop-registers
invariant-loop-registers l = record {
  are : AreRegisters l.passed l.registers.items l.octets;
  few : length l.registers.items ≤ most_registers;
  some : l.passed < length l.registers.items;
}

abbrev pub decreases-loop-registers : goal.decreases-loop-registers
decreases-loop-registers l = l.passed + l.len + 1 - length l.registers.items
