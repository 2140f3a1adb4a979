-- The copies so far are what was gone over.
use Rattle.std.proofs.Common.{◌≡◌, take}
use Rattle.lpt_memory.proofs.contents.copy.Given as goal

abbrev pub invariant-loop-id : goal.invariant-loop-id
invariant-loop-id l = l.copies.items ≡ take l.id-index l.memories
