-- What changes that which is kept of a spacecraft, by what is told.
use Rattle.std.specs.Prelude.{ℕ, ◌+◌, ◌==◌, nat_lt, Bool, true, false, ◌||◌, is_some, List}
use Rattle.std.specs.List.{list_any}
use Rattle.lpt_events.specs.declared.outcome.Outcome.{Outcome}
use Rattle.lpt_events.specs.declared.outcome.Outcome.TheVariants.{Released, Broken, AbortNoted}
use Rattle.lpt_spacecraft.specs.declared.told.Told.{Told}
use Rattle.lpt_spacecraft.specs.declared.told.Told.TheVariants.{Took, Did, GaveUp, Freed, UsedUp, Skipped}

-- whether a packet of which this became has used a name up
abbrev pub uses_name : Outcome → Bool
uses_name (Released name len) = true
uses_name (Broken name reason) = true
uses_name (AbortNoted name reason) = true
uses_name _ = false

-- whether what is kept may be another behind this: a name was used up or is free again, or a memory
-- was written
abbrev pub changes : Told → Bool
changes (Took o) = uses_name o
changes (Did d) = is_some d.wrote || is_some d.sent
changes (GaveUp name) = true
changes (Freed way name) = true
changes (UsedUp way source) = false
changes (Skipped place len) = false

-- the same of all that is told
abbrev pub any_changes : List Told → Bool
any_changes ts = list_any changes ts

-- whether a tick comes with a packet, which sets the clock on
abbrev pub ticks_with : (due every since : ℕ) → Bool
ticks_with due every since = nat_lt 0 due || (since + 1 == every)
