-- Last ticks that are set back as a clock is, so that all times stay the same from the clock on.
use Rattle.std.specs.Prelude.{ℕ, ◌-◌, Bool, true, nat_le, map as mapped}
use Rattle.std.specs.Option.{option_map_or}
use Rattle.std.specs.FinMap as map
use Rattle.lpt_table.specs.declared.places.DuePlace.{DuePlace}
use Rattle.lpt_table.specs.Tables.{Entries, TableEntry, TableState}
use Rattle.lpt_table.specs.Walking.{least_last}

-- a reception that took its last part so many ticks earlier
abbrev pub earlier : (ticks : ℕ) → TableEntry → TableEntry
earlier ticks e = record e { last = e.last - ticks }

-- each reception so
unfoldable pub set_back : (ticks : ℕ) → Entries → Entries
set_back ticks m = map.from_entries (mapped (λ e. (e.0, earlier ticks e.1)) (map.entries m))

-- a table whose receptions are so
abbrev pub table_back : (ticks : ℕ) → TableState → TableState
table_back ticks t = record t { entries = set_back ticks t.entries }

-- whether no last tick is below so many
abbrev pub reaches_back : (ticks : ℕ) → Entries → Bool
reaches_back ticks m = option_map_or (λ last. nat_le ticks last) (least_last (map.entries m)) true

-- the place of a reception so
abbrev pub place_earlier : (ticks : ℕ) → DuePlace → DuePlace
place_earlier ticks x = record x { last = x.last - ticks }
