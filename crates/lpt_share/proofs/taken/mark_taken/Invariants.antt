-- The marks so far, with those of the rest, are all, and all were fresh where those so far were.
use Rattle.std.proofs.Common.{◌≡◌, ◌&&◌, length}
use Rattle.lpt_share.specs.FinishedInside.{are_fresh, packets_marked}
use Rattle.lpt_share.proofs.taken.mark_taken.Given as goal

abbrev pub invariant-loop-entry : goal.invariant-loop-entry
invariant-loop-entry l =
    (packets_marked l.rest l.marks.items ≡ packets_marked l.fn.entries l.fn.marks.items)
    × (length l.marks.items ≡ length l.fn.marks.items)
    × ((l.once && are_fresh l.rest l.marks.items) ≡ are_fresh l.fn.entries l.fn.marks.items)

abbrev pub decreases-loop-entry : goal.decreases-loop-entry
decreases-loop-entry l = length l.rest
