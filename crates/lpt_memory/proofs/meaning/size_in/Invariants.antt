-- The size in what is left is the size in all.
use Rattle.std.proofs.Common.{◌≡◌, drop}
use Rattle.lpt_memory.specs.Meanings.{size_of}
use Rattle.lpt_memory.proofs.meaning.size_in.Given as goal

abbrev pub invariant-loop-known : goal.invariant-loop-known
invariant-loop-known l = size_of l.id (drop l.known-index l.sizes) ≡ size_of l.id l.sizes
