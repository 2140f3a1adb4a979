-- The memories that a new end of the spacecraft's begins with.
use Rattle.std.specs.Prelude.{ℕ, ◌+◌, nat_le, Bool, true, ◌&&◌, List, [], ◌∷◌, length, map, take, drop}
use Rattle.lpt_events.specs.declared.side.Side.{Side}
use Rattle.lpt_events.specs.declared.side.Side.TheVariants.{Ground, Craft}
use Rattle.lpt_memory.specs.Meanings.{Sizes}
use Rattle.lpt_memory.specs.Memories.{Contents, are_distinct}
use Rattle.lpt_c_end.specs.InOrder.{by_id}
use Rattle.lpt_c_end.specs.declared.kept.Kept.{Kept}
use Rattle.lpt_c_end.specs.declared.kept.Kept.TheVariants.{Nowhere, Here}
use Rattle.lpt_c_end.specs.declared.memories.LptMemory.{LptMemory}
use Rattle.lpt_memory.specs.Limits.{memory_limit}

-- the identifier and the size of one
abbrev pub size_told : LptMemory → ℕ × ℕ
size_told m = (m.id, m.len)

-- its identifier and the octets of a content with which it begins
abbrev pub memory_told : List ℕ → LptMemory → ℕ × List ℕ
memory_told content m = (m.id, take m.len (drop m.at content))

-- those of all, in the order of identifiers
abbrev pub memories_told : List ℕ → List LptMemory → Contents
memories_told content ms = by_id (map (memory_told content) ms)

-- the same, of an end of this side; ground has none
abbrev pub memories_of : Side → List LptMemory → List ℕ → Kept
memories_of Ground ms content = Nowhere
memories_of Craft ms content = Here (memories_told content ms)

-- whether each stands in a content of so many octets
abbrev pub are_within : ℕ → List LptMemory → Bool
are_within len [] = true
are_within len (m ∷ ms) = nat_le (m.at + m.len) len && are_within len ms

-- whether there are 1 to 16, of distinct identifiers and of 1 to 1,048,576 octets each
abbrev pub are_sizes : Sizes → Bool
are_sizes ss = nat_le 1 (length ss) && nat_le (length ss) memory_limit && are_distinct ss

-- whether they can be memories, of a content of so many octets
abbrev pub can_be : ℕ → List LptMemory → Bool
can_be len ms = are_within len ms && are_sizes (map size_told ms)
