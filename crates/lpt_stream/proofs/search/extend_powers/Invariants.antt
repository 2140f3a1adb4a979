use Rattle.std.proofs.Common.{◌<◌, ◌≤◌, ◌-◌, ◌+◌, length}
use Rattle.lpt_stream.specs.Registers.{ArePowers, most_powers}
use Rattle.lpt_stream.proofs.search.extend_powers.Given as goal

abbrev pub invariant-loop-powers : goal.invariant-loop-powers
invariant-loop-powers l = record {
  are : ArePowers l.powers.items;
  few : length l.powers.items ≤ most_powers;
  some : 0 < length l.powers.items;
}

abbrev pub decreases-loop-powers : goal.decreases-loop-powers
decreases-loop-powers l = l.len + 1 - length l.powers.items
