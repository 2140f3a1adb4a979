use Rattle.std.proofs.Common.{ℕ, Bool, List, length}
use Rattle.lpt_carried.specs.declared.reading.Reading.{Reading}
use Rattle.lpt_layout_each.specs.Helds.{HoldsEach}
use Rattle.lpt_layout_each.proofs.TellLemmas.{IsLeft}
use Rattle.lpt_layout_each.proofs.leaving.leave_as.Given as goal

-- names were told of, and the others are still kept
abbrev pub invariant-loop-name : goal.invariant-loop-name
invariant-loop-name g l =
    (r : Reading) (any : Bool) (bs : List (List ℕ)) → HoldsEach r any bs l.fn.helds
    → IsLeft r any bs l.fn.helds.kept l.kept (g.T.TakerAs.heard l.fn.taker)
    (g.T.TakerAs.heard l.taker)

abbrev pub decreases-loop-name : goal.decreases-loop-name
decreases-loop-name g l = length l.kept.entries
