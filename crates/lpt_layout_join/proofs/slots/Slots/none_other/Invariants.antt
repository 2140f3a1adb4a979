-- None so far is another.
use Rattle.std.proofs.Common.{◌≡◌, ◌-◌, true}
use Rattle.lpt_layout_join.specs.Came.{none_other}
use Rattle.lpt_layout_join.specs.Slots.{at}
use Rattle.lpt_layout_join.proofs.slots.Slots.none_other.Given as goal

abbrev pub invariant-loop-place : goal.invariant-loop-place
invariant-loop-place l =
    none_other (λ n. at l.self (n - 1)) (λ n. at l.others (n - 1)) l.place ≡ true
