-- The receptions of a table, as a finite map from their names.
use Rattle.std.specs.Prelude.{◌≡◌, ℕ, Option, Some, None, refl}
use Rattle.std.specs.Coded.{Coded, code_by, coded×, coded_ℕ}
use Rattle.std.specs.FinMap as maps
use Rattle.lpt_packet.specs.Names.{Name}
use Rattle.lpt_part.specs.declared.mode.Mode.{Mode}
use Rattle.lpt_reception.specs.Received.{Kept, Parts}
use Rattle.lpt_reception.specs.Steps.{Takes}
use Rattle.lpt_reception.specs.declared.step.Took.{Took}
use Rattle.lpt_reception.specs.declared.step.Took.TheVariants as took
use Rattle.lpt_table.specs.Tables.{TableEntry, Entries, coded_entries}

-- how many places the list has, the part size, the receptions
pub record Listing : Type 0 where
  pub limit : ℕ
  pub p : ℕ
  pub entries : Entries

-- a list is coded as the tuple of its fields
abbrev pub coded_listing : Coded Listing
coded_listing =
    code_by (ℕ × (ℕ × Entries)) (coded× coded_ℕ (coded× coded_ℕ coded_entries))
    (λ l. (l.limit, (l.p, l.entries)))
    (λ x. record { limit = x.0; p = x.1.0; entries = x.1.1 }) (λ _. refl)

-- how many receptions are out
abbrev pub how_many_out : Option (Name × ℕ) → ℕ
how_many_out None = 0
how_many_out (Some o) = 1

-- the reception that is out is not among these
abbrev pub IsAway : Option (Name × ℕ) → Entries → Type 0
IsAway None m = Unit {0}
IsAway (Some o) m = maps.get m o.0 ≡ None

-- the last tick of a reception that has made this of a part: now if it has the part, and others are
-- missing
abbrev pub last_after : Took → ℕ → ℕ → ℕ
last_after took.Kept last now = now
last_after took.Again last now = now
last_after took.Whole last now = last
last_after (took.Conflict r) last now = last
last_after took.NoMemory last now = last

-- the reception of a name takes part n in this mode, and stays in the list
pub record TakesIn (mode : Mode) (old new : Listing) (name : Name) (n now : ℕ) (x : Kept) (t : Took)
    : Type 0 where
  pub entry : TableEntry
  pub parts : Parts
  pub was : maps.get old.entries name ≡ Some entry
  pub takes : Takes mode (record { id = name.id; p = old.p; parts = entry.parts }) n x t
      (record { id = name.id; p = old.p; parts = parts })
  pub becomes : new ≡ record old {
    entries = maps.insert old.entries name
        (record { parts = parts; last = last_after t entry.last now });
  }
