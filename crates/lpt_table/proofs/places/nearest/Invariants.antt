-- What was found is the nearest of the places that were looked at.
use Rattle.std.proofs.Common.{◌≡◌, drop}
use Rattle.lpt_table.specs.Walking.{nearest}
use Rattle.lpt_table.proofs.places.nearest.Given as goal

abbrev pub invariant-loop-at : goal.invariant-loop-at
invariant-loop-at l = l.found ≡ nearest l.after (drop l.at l.places)
