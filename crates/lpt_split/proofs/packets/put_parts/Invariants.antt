-- The packets that were put, and those of the parts that are left, are all; and what can't be made
-- of those is what can't be made of all.
use Rattle.std.proofs.Common.{◌≡◌, ◌≤◌, ◌++◌, length, drop}
use Rattle.lpt_layout.specs.declared.fault.LayoutFault.{LayoutFault}
use Rattle.lpt_part.specs.Splitting.{part_count}
use Rattle.lpt_split.specs.Forms.{packets_in}
use Rattle.lpt_split.specs.Packets.{packets_of, AreMade, FirstFault}
use Rattle.lpt_split.specs.Splits.{AreNumbers}
use Rattle.lpt_split.proofs.packets.put_parts.Given as goal

abbrev pub invariant-loop-number : goal.invariant-loop-number
invariant-loop-number l = record {
  count : l.count ≤ 16383;
  left : AreNumbers (part_count (length l.message) l.writing.part_size)
      (drop l.number-index l.numbers);
  put : l.octets.items ++ packets_in l.writing.form l.writing.clock
      (packets_of l.writing l.id l.message l.count (drop l.number-index l.numbers))
      ≡ l.fn.octets.items ++ packets_in l.writing.form l.writing.clock
      (packets_of l.writing l.id l.message l.first l.numbers);
  all : AreMade l.writing l.id l.message l.count (drop l.number-index l.numbers)
      → AreMade l.writing l.id l.message l.first l.numbers;
  first_fault : (e : LayoutFault)
      → FirstFault l.writing l.id l.message l.count (drop l.number-index l.numbers) e
      → FirstFault l.writing l.id l.message l.first l.numbers e;
}
