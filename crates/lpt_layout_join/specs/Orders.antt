-- The parts of a name that come in the order of their numbers.
use Rattle.std.specs.Prelude.{ℕ, ◌+◌, ◌==◌, ◌&&◌, min, nat_lt, Bool, true, false, if◌then◌else◌, Option, Some, None}
use Rattle.lpt_stream.specs.Pieces.{up_to_limit}
use Rattle.lpt_layout_join.specs.declared.last_part.LastPart.{LastPart}
use Rattle.lpt_layout_join.specs.declared.order.Order.{Order}

-- none came
abbrev pub no_order : Order
no_order = record { count = 0; missing = 0; room = 0; few = true }

-- fewer than k counts are missing between two places of a stream, up to which these are
abbrev pub are_few : (k before now : ℕ) → Bool
are_few k before now = nat_lt now (up_to_limit (before + k))

-- the first part
abbrev pub with_first : (now : ℕ) → Order
with_first now = record { count = 1; missing = now; room = 1; few = true }

-- the next part: fewer are missing between it and the one before than that leaves room for
abbrev pub with_next : Order → (number now : ℕ) → Order
with_next o n now = record {
  count = n;
  missing = now;
  room = n;
  few = o.few && are_few o.room o.missing now;
}

-- One of them again: if it is of another message, the first part of that is missing, and so is the
-- part behind the last one here. So behind it at most one may be missing.
abbrev pub with_again : Order → Order
with_again o = record o { room = min o.room 2 }

-- with a part of this number, up to which so many counts are missing: part 1 begins, the next one
-- goes on, and another one that isn't one of them again ends it
abbrev pub order_after : Order → (number now : ℕ) → Order
order_after o n now =
    if n == 1 then with_first now
    else if nat_lt o.count n then (if n == o.count + 1 then with_next o n now else no_order)
    else with_again o

-- all parts up to the last one came in their order, and few counts are missing between them
abbrev pub is_in_order : Option LastPart → Order → Bool
is_in_order None o = false
is_in_order (Some l) o = (o.count == l.number) && o.few
