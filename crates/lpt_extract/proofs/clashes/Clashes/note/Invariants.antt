-- What is told of the octets in front.
use Rattle.std.proofs.Common.{◌≤◌, ◌-◌, List, length}
use Rattle.lpt_memory.specs.declared.request.Area.{Area}
use Rattle.lpt_extract.specs.Clashes.{cover_of}
use Rattle.lpt_extract.specs.CoversInside.{Ascend, Covers}
use Rattle.lpt_extract.specs.Gaps.{gaps_in}
use Rattle.lpt_extract.proofs.ClashLemmas.{Told}
use Rattle.lpt_extract.proofs.clashes.Clashes.note.Given as goal

abbrev pub invariant-loop-at : goal.invariant-loop-at
invariant-loop-at l = record {
  few : l.at ≤ length l.area;
  told : (told : List Area) → Ascend (gaps_in l.gaps) → Covers 0 told (cover_of l.fn.self)
      → Told l.from l.standing (gaps_in l.gaps)
      (record { address = l.address; octets = l.area }) told l.at (cover_of l.self);
}

abbrev pub decreases-loop-at : goal.decreases-loop-at
decreases-loop-at l = length l.area - l.at
