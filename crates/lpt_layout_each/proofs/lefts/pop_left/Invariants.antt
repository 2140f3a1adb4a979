use Rattle.std.proofs.Common.{◌≡◌, ℕ, Bool, List, length}
use Rattle.lpt_carried.specs.declared.reading.Reading.{Reading}
use Rattle.lpt_layout_each.specs.Lefts.{HoldsYet, left_yet}
use Rattle.lpt_layout_each.proofs.lefts.pop_left.Given as goal

-- nothing was left of the names that were taken out
abbrev pub invariant-loop-name : goal.invariant-loop-name
invariant-loop-name l =
    (r : Reading) (any : Bool) (bs : List (List ℕ)) → HoldsYet r any bs l.initial.helds
    → HoldsYet r any bs l.helds
    × (left_yet r any bs l.initial.helds ≡ left_yet r any bs l.helds)

abbrev pub decreases-loop-name : goal.decreases-loop-name
decreases-loop-name l = length l.helds.kept.entries
