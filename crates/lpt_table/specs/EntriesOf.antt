-- The receptions that stand at places as a finite map has them.
use Rattle.std.specs.Prelude.{◌≡◌, ℕ, ◌≤◌, T, List, map, length, Option, Some, None}
use Rattle.std.specs.FinMap as maps
use Rattle.slab.specs.Slab.{Slab, get, slab_len}
use Rattle.lpt_packet.specs.Names.{Name, name_cmp}
use Rattle.lpt_reception.specs.Received.{Parts, Received, no_parts}
use Rattle.lpt_table.specs.declared.entries.Entry.{Entry}
use Rattle.lpt_table.specs.declared.places.DuePlace.{DuePlace}
use Rattle.lpt_table.specs.Places.{by_name, by_moment, when_cmp, AreApart}
use Rattle.lpt_table.specs.Tables.{TableEntry, Entries}

-- what is kept of a reception, and when it last took a part
abbrev pub entry_in : Entry → TableEntry
entry_in e = record { parts = e.filling.parts; last = e.last }

-- the reception is of this part size, and of the identifier of the name that it stands under
pub record IsIts (p : ℕ) (e : Entry) : Type 0 where
  pub of_size : e.filling.p ≡ p
  pub named : e.filling.id ≡ e.name.id

-- the entry is what a map has under a name, and stands under this name, of this part size
pub record IsEntry (at : Option TableEntry) (name : Name) (p : ℕ) (e : Entry) : Type 0 where
  pub found : at ≡ Some (entry_in e)
  pub named : e.name ≡ name
  pub its : IsIts p e

-- the parts of a reception, if there is one
abbrev pub parts_in : Option Received → Parts
parts_in None = no_parts
parts_in (Some f) = f.parts

-- the reception at a place, as a table has it
abbrev pub entry_at : Slab Received → DuePlace → TableEntry
entry_at s x = record { parts = parts_in (get s x.key); last = x.last }

-- the receptions at places, by their names
abbrev pub entries_of : Slab Received → List DuePlace → List (Name × TableEntry)
entries_of s xs = map (λ x. (x.name, entry_at s x)) xs

-- the same as a finite map
abbrev pub map_of : Slab Received → List DuePlace → Entries
map_of s xs = maps.from_entries (entries_of s xs)

-- at the place of a name a reception of that name and of the part size is kept
pub record IsHeld (s : Slab Received) (p : ℕ) (name : Name) (x : DuePlace) : Type 0 where
  pub filling : Received
  pub kept : get s x.key ≡ Some filling
  pub named : filling.id ≡ name.id
  pub of_size : filling.p ≡ p

-- the places are in order, no name stands twice, each has its reception, which stands at no other
-- place, no other is kept, and there is room for as many as the limit
pub record IsListed (limit p capacity : ℕ) (s : Slab Received) (xs : List DuePlace) : Type 0 where
  pub ordered : T (maps.is_sorted when_cmp (by_moment xs))
  pub apart : AreApart name_cmp (by_name xs)
  pub held : (name : Name) (x : DuePlace)
      → maps.find name_cmp name (by_name xs) ≡ Some x → IsHeld s p name x
  pub alone : (q r : Name) (x y : DuePlace)
      → maps.find name_cmp q (by_name xs) ≡ Some x
      → maps.find name_cmp r (by_name xs) ≡ Some y
      → x.key ≡ y.key
      → q ≡ r
  pub as_many : slab_len s ≡ length xs
  pub within : length xs ≤ limit
  pub places : limit ≤ capacity
  pub slots : limit ≤ s.capacity
