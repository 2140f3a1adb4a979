-- What is asked of a memory, cut into as many requests as it needs.
use Rattle.std.specs.Prelude.{◌≡◌, ℕ, ◌+◌, ◌-◌, ◌^◌, ◌<◌, ◌==◌, min, nat_lt, if◌then◌else◌, List, [], ◌∷◌, ◌++◌, length, take, drop, map, Option, Some, None}
use Rattle.lpt_memory.specs.declared.request.Area.{Area}
use Rattle.lpt_memory.specs.declared.request.AreaRange.{AreaRange}
use Rattle.lpt_requests.specs.declared.cut_fault.CutFault.{CutFault}
use Rattle.lpt_requests.specs.declared.cut_fault.CutFault.TheVariants.{Empty, PastEnd}
use Rattle.lpt_requests.specs.declared.reading.AreaPlace.{AreaPlace}
use Rattle.lpt_requests.specs.declared.reading.Read.{Read}
use Rattle.lpt_requests.specs.declared.reading.Read.TheVariants as reads
use Rattle.lpt_requests.specs.declared.request.Request.{Request}
use Rattle.lpt_requests.specs.declared.request.Request.TheVariants.{Load, Dump, Check}
use Rattle.lpt_requests.specs.Requests.{as_range}

-- ---- requests

-- what a request asks of a memory
pub data Asked : Type 0 where
  Loads : (memory : ℕ) → (areas : List Area) → Asked
  Dumps : (memory : ℕ) → (ranges : List AreaRange) → Asked
  Checks : (memory : ℕ) → (ranges : List AreaRange) → Asked

-- the same of a request in the program
abbrev pub view : Request → Asked
view (Load memory areas) = Loads memory areas.items
view (Dump memory ranges) = Dumps memory (map as_range ranges.items)
view (Check memory ranges) = Checks memory (map as_range ranges.items)

-- the load of one area
abbrev pub as_load : (memory : ℕ) → Area → Asked
as_load memory a = Loads memory (a ∷ [])

-- the dump, or the check, of one place
abbrev pub as_read : Read → (memory : ℕ) → AreaRange → Asked
as_read reads.Dump memory r = Dumps memory (r ∷ [])
as_read reads.Check memory r = Checks memory (r ∷ [])

-- ---- areas that are loaded

-- octets at an address are cut into these areas, of as many octets each, but for the last
abbrev pub AreCut : (each address : ℕ) → List ℕ → List Area → Type 0
AreCut each address octets [] = octets ≡ []
AreCut each address octets (a ∷ rest) =
    (0 < length octets) × (a ≡ record { address = address; octets = take each octets })
    × AreCut each (address + each) (drop each octets) rest

-- areas are cut into these, area by area
abbrev pub AreasCut : (each : ℕ) → (areas pieces : List Area) → Type 0
AreasCut each [] pieces = pieces ≡ []
AreasCut each (a ∷ areas) pieces =
    (front : List Area) × (rest : List Area) × (pieces ≡ front ++ rest)
    × AreCut each a.address a.octets front × AreasCut each areas rest

-- ---- places that are read

-- so many octets at an address are cut into these ranges, of as many octets each, but for the last
abbrev pub IsRangeCut : (each address len : ℕ) → List AreaRange → Type 0
IsRangeCut each address len [] = len ≡ 0
IsRangeCut each address len (r ∷ rest) =
    (0 < len) × (r ≡ record { address = address; len = min len each })
    × IsRangeCut each (address + each) (len - each) rest

-- places are cut into these, place by place
abbrev pub ArePlacesCut : (each : ℕ) → List AreaPlace → List AreaRange → Type 0
ArePlacesCut each [] ranges = ranges ≡ []
ArePlacesCut each (p ∷ places) ranges =
    (front : List AreaRange) × (rest : List AreaRange) × (ranges ≡ front ++ rest)
    × IsRangeCut each p.address p.len front × ArePlacesCut each places rest

-- ---- faults

-- the fault of so many octets at an address, if there is one: none, or more than addresses are
-- left
abbrev pub place_fault : (address len : ℕ) → Option CutFault
place_fault address len =
    if len == 0 then Some Empty
    else if nat_lt (2 ^ 32) (address + len) then Some PastEnd
    else None

-- the first fault of these, or else of those
abbrev pub or_first : {F : Type 0} → Option F → Option F → Option F
or_first (Some e) more = Some e
or_first None more = more

-- the first fault of areas, in their order
abbrev pub area_faults : List Area → Option CutFault
area_faults [] = None
area_faults (a ∷ rest) = or_first (place_fault a.address (length a.octets)) (area_faults rest)

-- the fault of areas that are to be loaded
abbrev pub areas_fault : List Area → Option CutFault
areas_fault areas = if length areas == 0 then Some Empty else area_faults areas

-- the first fault of places, in their order
abbrev pub place_faults : List AreaPlace → Option CutFault
place_faults [] = None
place_faults (p ∷ rest) = or_first (place_fault p.address p.len) (place_faults rest)

-- the fault of places that are to be read
abbrev pub places_fault : List AreaPlace → Option CutFault
places_fault places = if length places == 0 then Some Empty else place_faults places
