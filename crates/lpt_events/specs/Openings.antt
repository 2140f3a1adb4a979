-- Which openings are of a transaction.
use Rattle.std.specs.Prelude.{Bool, false, ◌&&◌, ◌||◌, List, [], ◌∷◌}
use Rattle.lpt_packet.specs.declared.direction.Direction.{Direction}
use Rattle.lpt_packet.specs.Names.{Name, same_name}
use Rattle.lpt_events.specs.declared.entry.Opening.{Opening}
use Rattle.lpt_events.specs.Lanes.{same_direction}

-- whether an opening is of this transaction
abbrev pub is_opening_of : Direction → Name → Opening → Bool
is_opening_of d name o = same_direction o.direction d && same_name o.name name

-- whether one of these openings is of the transaction
abbrev pub is_opened : List Opening → Direction → Name → Bool
is_opened [] d name = false
is_opened (o ∷ os) d name = is_opening_of d name o || is_opened os d name
