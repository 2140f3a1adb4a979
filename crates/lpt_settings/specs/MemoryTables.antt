-- The memories that a table describes.
use Rattle.std.specs.Prelude.{ℕ, Bool, false, ◌==◌, if◌then◌else◌, List, [], ◌∷◌, replicate, codes, Option, Some, None}
use Rattle.std.specs.List.{list_any}
use Rattle.toml.specs.declared.value.Value.{Value}
use Rattle.toml.specs.View.{view}
use Rattle.toml.specs.Data.{Data, Items, no_items, item, Members, get_member, as_array, as_table}
use Rattle.lpt_memory.specs.Fields.{◌>>=◌}
use Rattle.lpt_memory.specs.Memories.{Contents, are_memories}
use Rattle.lpt_settings.specs.Keys.{has_only}
use Rattle.lpt_settings.specs.Numbers.{number_at}
use Rattle.lpt_memory.specs.Limits.{size_limit}

-- the keys that a memory's table has
abbrev pub memory_keys : List (List ℕ)
memory_keys = codes "id" ∷ codes "size" ∷ codes "fill" ∷ []

-- the memory of a table: an identifier, and so many octets of one value
abbrev pub memory_in : Members → Option (ℕ × List ℕ)
memory_in members =
    if has_only memory_keys members then (do
      id ← number_at (codes "id") 0 255 None members
      size ← number_at (codes "size") 1 size_limit None members
      fill ← number_at (codes "fill") 0 255 (Some 0) members
      Some (id, replicate size fill))
    else None

-- the memory of a value that is a table
abbrev pub memory_of : Data → Option (ℕ × List ℕ)
memory_of d = as_table d >>= memory_in

-- the memory of each item
abbrev pub each_memory : Items → Option Contents
each_memory no_items = Some []
each_memory (item d more) = do
  first ← memory_of d
  others ← each_memory more
  Some (first ∷ others)

-- these, if they can be memories
abbrev pub if_memories : Contents → Option Contents
if_memories ms = if are_memories ms then Some ms else None

-- whether there is a memory, of this identifier
abbrev pub is_id : ℕ → Option (ℕ × List ℕ) → Bool
is_id id None = false
is_id id (Some m) = m.0 == id

-- whether one of the values describes a memory of this identifier
abbrev pub has_id : ℕ → List Value → Bool
has_id id values = list_any (λ v. is_id id (memory_of (view v))) values

-- the memories of a value that is an array of tables
abbrev pub memories_listed : Data → Option Contents
memories_listed d = as_array d >>= each_memory >>= if_memories

-- the memories if none are described: one memory 1 of 256 octets of 0
unfoldable pub default_memories : Contents
default_memories = (1, replicate 256 0) ∷ []

-- the memories of a value, or the default if there is none
abbrev pub memories_or : Option Data → Option Contents
memories_or None = Some default_memories
memories_or (Some d) = memories_listed d

-- the memories at the key `memory`, or the default if the key is absent
abbrev pub memories_of : Members → Option Contents
memories_of members = memories_or (get_member (codes "memory") members)
