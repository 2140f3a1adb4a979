-- The one encoding of each body, and of a load's packet.
use Rattle.std.specs.Prelude.{ℕ, ◌+◌, ◌<◌, ◌^◌, List, [], ◌∷◌, ◌++◌, length, map, sum_by, Bool, false, ◌||◌, ◌==◌, nat_lt, if◌then◌else◌, Option, Some, None}
use Rattle.std.specs.List.{flat_map, AllByRecursion}
use Rattle.lpt_packet.specs.Numbers.{be}
use Rattle.lpt_packet.specs.Checksums.{checksum}
use Rattle.lpt_memory.specs.declared.fault.MemoryFault.{MemoryFault}
use Rattle.lpt_memory.specs.declared.fault.MemoryFault.TheVariants.{TooLong, BadArea}
use Rattle.lpt_memory.specs.declared.request.Area.{Area}
use Rattle.lpt_memory.specs.declared.request.AreaRange.{AreaRange}
use Rattle.lpt_packet.specs.Sizes.{longest_packet}
use Rattle.lpt_memory.specs.Requests.{LoadArea}
use Rattle.lpt_memory.specs.Limits.{area_limit, load_head, area_header}

-- start address 32 bits, length 16, so many octets, checksum 16
abbrev pub load_area_text : LoadArea → List ℕ
load_area_text a = be a.address 4 ++ (be (length a.octets) 2 ++ (a.octets ++ be a.checksum 2))

-- start address 32 bits, length 16
abbrev pub range_text : AreaRange → List ℕ
range_text r = be r.address 4 ++ be r.len 2

-- memory identifier 8 bits, number of areas 8, the areas
abbrev pub body_text : {A : Type 0} → (A → List ℕ) → ℕ → List A → List ℕ
body_text one memory areas = memory ∷ length areas ∷ flat_map one areas

-- an area of a load that has an encoding
pub record LoadAreaFits (a : LoadArea) : Type 0 where
  pub address : a.address < 2 ^ 32
  pub some : 0 < length a.octets
  pub len : length a.octets < 2 ^ 16
  pub checksum : a.checksum < 2 ^ 16

-- a range that has an encoding
pub record RangeFits (r : AreaRange) : Type 0 where
  pub address : r.address < 2 ^ 32
  pub some : 0 < r.len
  pub len : r.len < 2 ^ 16

-- 1 to 255 areas that have encodings
abbrev pub AreAreas : {A : Type 0} → (A → Type 0) → List A → Type 0
AreAreas Fits areas = (0 < length areas) × (length areas < 256) × AllByRecursion Fits areas

-- an area with the checksum of its octets
abbrev pub area_stored : Area → LoadArea
area_stored a = record { address = a.address; octets = a.octets; checksum = checksum a.octets }

-- the body of a load of these areas
abbrev pub load_text : ℕ → List Area → List ℕ
load_text memory areas = body_text load_area_text memory (map area_stored areas)

-- the octets of a load's packet: 15, and in each area 8 and its octets
abbrev pub load_length : List Area → ℕ
load_length areas = load_head + sum_by (λ a. area_header + length a.octets) areas

-- whether one of the areas has no octets
abbrev pub any_empty : List Area → Bool
any_empty [] = false
any_empty (a ∷ rest) = length a.octets == 0 || any_empty rest

-- the first fault of a load that is to be written: a packet that would be too long; then no area,
-- more than 255, or an empty one
abbrev pub write_fault : List Area → Option MemoryFault
write_fault areas =
    if nat_lt longest_packet (load_length areas) then Some TooLong
    else if length areas == 0 || nat_lt area_limit (length areas) || any_empty areas then Some BadArea
    else None
