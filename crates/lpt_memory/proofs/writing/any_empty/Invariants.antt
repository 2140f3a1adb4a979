-- One of what is left is empty where one of all is.
use Rattle.std.proofs.Common.{◌≡◌, drop}
use Rattle.lpt_memory.specs.Spellings.{any_empty}
use Rattle.lpt_memory.proofs.writing.any_empty.Given as goal

abbrev pub invariant-loop-area : goal.invariant-loop-area
invariant-loop-area l = any_empty (drop l.area-index l.areas) ≡ any_empty l.areas
