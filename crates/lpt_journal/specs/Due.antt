-- Which reception has waited too long for a part, which of them is due first, and which is given
-- up.
use Rattle.std.specs.Prelude.{ℕ, ◌+◌, ◌==◌, nat_le, nat_lt, Bool, ◌&&◌, ◌||◌, if◌then◌else◌, List, [], ◌∷◌, Option, Some, None}
use Rattle.std.specs.List.{filter}
use Rattle.lpt_packet.specs.declared.direction.Direction.{Direction}
use Rattle.lpt_packet.specs.Names.{Name, name_before}
use Rattle.lpt_events.specs.declared.config.Config.{Config}
use Rattle.lpt_events.specs.Sides.{receiver_side}
use Rattle.lpt_journal.specs.Journal.{History}
use Rattle.lpt_journal.specs.Receivers.{heard, has_parts, open_names, clock, last_tick, limits}

-- whether the receiver took no part of the transaction for as long as the timeout
abbrev pub is_overdue : Config → History → Direction → Name → Bool
is_overdue c h d name =
    nat_le (last_tick c h d name + (limits c h (receiver_side d)).timeout)
    (clock c h (receiver_side d))

-- whether a name comes before another by their ticks, and of equal ticks by itself
abbrev pub comes_first : (Name → ℕ) → Name → Name → Bool
comes_first tick name other =
    nat_lt (tick name) (tick other) || ((tick name == tick other) && name_before name other)

-- the one of two names that comes first, if there is another
abbrev pub first_of_two : (Name → ℕ) → Name → Option Name → Option Name
first_of_two tick name None = Some name
first_of_two tick name (Some other) = if comes_first tick name other then Some name else Some other

-- the first of these names by their ticks
abbrev pub earliest : (Name → ℕ) → List Name → Option Name
earliest tick [] = None
earliest tick (name ∷ names) = first_of_two tick name (earliest tick names)

-- the overdue reception with the least last tick, and of equal ones the least name
abbrev pub due : Config → History → Direction → Option Name
due c h d = earliest (last_tick c h d) (filter (is_overdue c h d) (open_names c h d))

-- the reception that is given up: the one that is due, or the open one of the name that is given
abbrev pub given_up : Config → History → Direction → Option Name → Option Name
given_up c h d None = due c h d
given_up c h d (Some name) = if has_parts (heard c h d name) then Some name else None
