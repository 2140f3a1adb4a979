-- The requests of areas of memories, area by area.
use Rattle.std.specs.Prelude.{◌≡◌, ℕ, ◌+◌, ◌%◌, max, List, [], ◌∷◌, ◌++◌, length, map, take, drop}
use Rattle.lpt_memory.specs.declared.request.Area.{Area}
use Rattle.lpt_memory.specs.declared.request.AreaRange.{AreaRange}
use Rattle.lpt_requests.specs.declared.reading.AreaPlace.{AreaPlace}
use Rattle.lpt_requests.specs.declared.reading.Read.{Read}
use Rattle.lpt_requests.specs.declared.reading.Read.TheVariants as reads
use Rattle.lpt_requests.specs.Cuts.{AreasCut, ArePlacesCut, as_load, as_read}
use Rattle.lpt_ground.specs.declared.asked.Asked.{Asked}
use Rattle.lpt_ground_run.specs.declared.heads.Heads.{Heads}
use Rattle.lpt_ground_run.specs.declared.places.ErrandKind.{ErrandKind}
use Rattle.lpt_ground_run.specs.declared.places.ErrandKind.TheVariants.{Load, Dump, Check}
use Rattle.lpt_ground_run.specs.declared.places.Places.{Places}
use Rattle.lpt_ground_run.specs.Planning.{ArePlanned}

-- areas that are loaded into a memory, so many octets by one load, and the heads of the first load
pub record Task : Type 0 where
  pub heads : Heads
  pub memory : ℕ
  pub each : ℕ
  pub areas : List Area

-- these are the requests that `plan_loads` makes of it
pub record IsPlan (t : Task) (asked : List Asked) : Type 0 where
  pub pieces : List Area
  pub cut : AreasCut t.each t.areas pieces
  pub planned : ArePlanned t.heads (map (as_load t.memory) pieces) asked

-- the same of tasks, one behind the other
abbrev pub ArePlans : List Task → List Asked → Type 0
ArePlans [] asked = asked ≡ []
ArePlans (t ∷ tasks) asked =
    (front : List Asked) × (rest : List Asked) × (asked ≡ front ++ rest)
    × IsPlan t front × ArePlans tasks rest

-- the heads of a request behind so many, with the same flags
pub record IsAt (h : Heads) (many : ℕ) (next : Heads) : Type 0 where
  pub apid : next.apid ≡ h.apid
  pub source : next.source ≡ h.source
  pub count : next.count ≡ (h.count + many) % 16384
  pub flags : next.flags ≡ h.flags

-- the octets of a memory that places are
abbrev pub range_of : Places → AreaPlace
range_of p = record { address = p.address; len = p.len }

-- these are the requests that read one place, of so many octets each, from its first to its last
pub record IsReading (h : Heads) (what : Read) (memory each : ℕ) (place : AreaPlace)
    (asked : List Asked) : Type 0 where
  pub ranges : List AreaRange
  pub cut : ArePlacesCut each (place ∷ []) ranges
  pub planned : ArePlanned h (map (as_read what memory) ranges) asked

-- these are the requests of one kind: of a load they carry the octets of the area of its number
abbrev pub IsAskedBy : ErrandKind → Heads → Places → List Area → List Asked → Type 0
IsAskedBy Load h p areas asked =
    IsPlan (record {
      heads = h;
      memory = p.memory;
      each = max p.each 1;
      areas = take 1 (drop p.area areas);
    }) asked
IsAskedBy Dump h p areas asked = IsReading h reads.Dump p.memory (max p.each 1) (range_of p) asked
IsAskedBy Check h p areas asked = IsReading h reads.Check p.memory (max p.each 1) (range_of p) asked

-- these are the requests of one area
abbrev pub IsAskedOf : Heads → Places → List Area → List Asked → Type 0
IsAskedOf h p areas asked = IsAskedBy p.kind h p areas asked

-- the same of area after area, behind so many requests under these heads
abbrev pub AreAsked : Heads → (many : ℕ) → List Places → List Area → List Asked → Type 0
AreAsked h many [] areas asked = asked ≡ []
AreAsked h many (p ∷ places) areas asked =
    (front : List Asked) × (rest : List Asked) × (asked ≡ front ++ rest)
    × ((next : Heads) × IsAt h many next × IsAskedOf next p areas front)
    × AreAsked h (many + length front) places areas rest
