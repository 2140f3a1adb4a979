-- Which open reception is overdue, and which of those is due first.
use Rattle.std.specs.Prelude.{◌≡◌, ℕ, ◌+◌, ◌≤◌, false, nat_le, nat_lt, if◌then◌else◌, List, [], ◌∷◌, Option, Some, None}
use Rattle.std.specs.Option.{option_map}
use Rattle.std.specs.FinMap as map
use Rattle.lpt_packet.specs.Names.{Name, name_before}
use Rattle.lpt_table.specs.Tables.{TableEntry, TableState}

-- the reception took no part for as long as the timeout
abbrev pub IsOverdue : TableState → ℕ → TableEntry → Type 0
IsOverdue t now e = e.last + t.timeout ≤ now

-- the overdue reception with the least last tick, and of equal ones the least name
pub record IsDueEntry (t : TableState) (now : ℕ) (name : Name) (entry : TableEntry) : Type 0 where
  pub present : map.get t.entries name ≡ Some entry
  pub overdue : IsOverdue t now entry
  pub oldest : (other : Name) (its : TableEntry)
      → map.get t.entries other ≡ Some its → IsOverdue t now its → entry.last ≤ its.last
  pub least : (other : Name) (its : TableEntry)
      → map.get t.entries other ≡ Some its → its.last ≡ entry.last → name_before other name ≡ false

-- the reception of this name is due, or none is overdue
abbrev pub IsDue : TableState → ℕ → Option Name → Type 0
IsDue t now None =
    (name : Name) (entry : TableEntry) → map.get t.entries name ≡ Some entry
    → ¬ (IsOverdue t now entry)
IsDue t now (Some name) = (entry : TableEntry) × IsDueEntry t now name entry

-- the name and last tick of a reception that is overdue
abbrev pub if_overdue : ℕ → ℕ → Name × TableEntry → Option (Name × ℕ)
if_overdue timeout now e = if nat_le (e.1.last + timeout) now then Some (e.0, e.1.last) else None

-- the one with the lesser last tick, and of equal ones the first
abbrev pub sooner : Option (Name × ℕ) → Option (Name × ℕ) → Option (Name × ℕ)
sooner None b = b
sooner (Some a) None = Some a
sooner (Some a) (Some b) = if nat_lt b.1 a.1 then Some b else Some a

-- of the overdue receptions the first with the least last tick
abbrev pub soonest : ℕ → ℕ → List (Name × TableEntry) → Option (Name × ℕ)
soonest timeout now [] = None
soonest timeout now (e ∷ es) = sooner (if_overdue timeout now e) (soonest timeout now es)

-- the name of the reception that is due, if one is overdue
abbrev pub due_of : TableState → ℕ → Option Name
due_of t now = option_map (λ b. b.0) (soonest t.timeout now (map.entries t.entries))
