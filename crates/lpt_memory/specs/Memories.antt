-- Memories, and what a message makes of them.
use Rattle.std.specs.Prelude.{ℕ, ◌+◌, List, [], ◌∷◌, ◌++◌, length, take, drop, map, Bool, true, ◌&&◌, not, is_some, Option, Some, None, nat_le, ◌==◌, if◌then◌else◌}
use Rattle.lpt_memory.specs.declared.request.Area.{Area}
use Rattle.lpt_memory.specs.Meanings.{Meaning, Silent, Fault, Load, Dump, Check, Sizes, size_of}
use Rattle.lpt_memory.specs.Limits.{memory_limit, size_limit}

-- the identifier and the octets of each memory
abbrev pub Contents : Type 0
Contents = List (ℕ × List ℕ)

-- the octets of a memory
abbrev pub content_of : ℕ → Contents → Option (List ℕ)
content_of id [] = None
content_of id (m ∷ ms) = if m.0 == id then Some m.1 else content_of id ms

-- the identifier and the size of a memory
abbrev pub size : ℕ × List ℕ → ℕ × ℕ
size m = (m.0, length m.1)

-- the identifiers and sizes of memories
abbrev pub sizes_of : Contents → Sizes
sizes_of ms = map size ms

-- whether each has 1 to 1,048,576 octets, and no identifier comes twice
abbrev pub are_distinct : Sizes → Bool
are_distinct [] = true
are_distinct (s ∷ ss) =
    nat_le 1 s.1 && nat_le s.1 size_limit && not (is_some (size_of s.0 ss)) && are_distinct ss

-- whether these can be memories: 1 to 16, distinct, and each in its range
abbrev pub are_memories : Contents → Bool
are_memories ms = nat_le 1 (length ms) && nat_le (length ms) memory_limit && are_distinct (sizes_of ms)

-- octets put over those of a memory from an address on
abbrev pub put_at : List ℕ → ℕ → List ℕ → List ℕ
put_at content at octets = take at content ++ octets ++ drop (at + length octets) content

-- areas put over a memory one after the other
abbrev pub put_all : List ℕ → List Area → List ℕ
put_all content [] = content
put_all content (a ∷ rest) = put_all (put_at content a.address a.octets) rest

-- the memories after a load into one of them
abbrev pub memories_loaded : ℕ → List Area → Contents → Contents
memories_loaded id areas [] = []
memories_loaded id areas (m ∷ ms) =
    if m.0 == id then (m.0, put_all m.1 areas) ∷ ms else m ∷ memories_loaded id areas ms

-- what a message leaves of the memories
abbrev pub effect : Meaning → Contents → Contents
effect Silent ms = ms
effect (Fault code) ms = ms
effect (Load id areas) ms = memories_loaded id areas ms
effect (Dump id ranges) ms = ms
effect (Check id ranges) ms = ms
