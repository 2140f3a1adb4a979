-- The octets that are read are as many as the memory's size.
use Rattle.std.proofs.Common.{sym, subst, ℕ, List, length}
use Rattle.lpt_memory.specs.Ranges.{RangesFit}
use Rattle.lpt_memory.proofs.MemoriesLemmas.{RangesFit-octets_of}
use Rattle.lpt_memory.proofs.contents.check.Goals as goal

pub check-requires-clause-fit : goal.check-requires-clause-fit
check-requires-clause-fit c =
    let ranges = c.args.ranges.now in
    subst (λ (o : List ℕ). RangesFit (length o) ranges) (sym c.octets_of.ensures)
    (RangesFit-octets_of c.args.id ranges c.args.memories.now c.requires.fit)
