-- The parts before this place are joined.
use Rattle.std.proofs.Common.{◌≡◌, ◌-◌}
use Rattle.std.specs.Prelude.{Some}
use Rattle.lpt_layout_join.specs.Came.{octets_joined}
use Rattle.lpt_layout_join.specs.Slots.{at}
use Rattle.lpt_layout_join.proofs.slots.Slots.joined.Given as goal

abbrev pub invariant-loop-place : goal.invariant-loop-place
invariant-loop-place l = octets_joined (λ n. at l.self (n - 1)) l.place ≡ Some l.octets.items
