-- The areas of memories, written one behind the other or as an image.
use Rattle.std.specs.Prelude.{ℕ, ◌+◌, max, List, [], ◌∷◌, length, drop, replicate}
use Rattle.std.specs.List.{flat_map}
use Rattle.lpt_memory.specs.declared.request.Area.{Area}
use Rattle.lpt_memory.specs.Memories.{put_all}

-- the octets of areas, in their order
abbrev pub all_octets : List Area → List ℕ
all_octets areas = flat_map (λ a. a.octets) areas

-- the address behind an area
abbrev pub end_of : Area → ℕ
end_of a = a.address + length a.octets

-- the address behind the area that ends last
abbrev pub extent : List Area → ℕ
extent [] = 0
extent (a ∷ rest) = max (end_of a) (extent rest)

-- a memory of the fill up to where the last area ends, with the areas loaded one after the other; of
-- that, the octets from an address on
unfoldable pub image : (from fill : ℕ) → List Area → List ℕ
image from fill areas = drop from (put_all (replicate (extent areas) fill) areas)

-- the most octets of an image
abbrev pub image_limit : ℕ
image_limit = 268435456
