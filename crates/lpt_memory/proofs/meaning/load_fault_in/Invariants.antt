-- The first fault of what is left is the first fault of all, and what is left lies within the body.
use Rattle.std.proofs.Common.{◌≡◌, drop, length, map}
use Rattle.lpt_memory.specs.Seen.{load_area, AreWithin}
use Rattle.lpt_memory.specs.Meanings.{load_fault}
use Rattle.lpt_memory.proofs.meaning.load_fault_in.Given as goal

abbrev pub invariant-loop-area : goal.invariant-loop-area
invariant-loop-area l = record {
  fault : load_fault l.size (map (load_area l.body) (drop l.area-index l.areas))
      ≡ load_fault l.size (map (load_area l.body) l.areas);
  within : AreWithin (length l.body) (drop l.area-index l.areas);
}
