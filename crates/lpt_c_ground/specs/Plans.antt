-- The requests of a job, and why it has none.
use Rattle.std.specs.Prelude.{◌≡◌, ◌≤◌, ℕ, ◌+◌, ◌-◌, ◌==◌, nat_le, nat_lt, Bool, false, ◌&&◌, ◌||◌, if◌then◌else◌, List, [], ◌∷◌, length, map, take, drop, Option, Some, None}
use Rattle.std.specs.Int.{div_ceil}
use Rattle.lpt_memory.specs.declared.request.Area.{Area}
use Rattle.lpt_memory.specs.declared.request.AreaRange.{AreaRange}
use Rattle.lpt_requests.specs.declared.cut_fault.CutFault.{CutFault}
use Rattle.lpt_requests.specs.declared.reading.AreaPlace.{AreaPlace}
use Rattle.lpt_requests.specs.declared.reading.Read.{Read}
use Rattle.lpt_requests.specs.declared.reading.Read.TheVariants as reads
use Rattle.lpt_requests.specs.declared.request.Request.{Request}
use Rattle.lpt_requests.specs.Cuts.{AreasCut, ArePlacesCut, as_load, as_read, places_fault, view}
use Rattle.lpt_ground.specs.Overlaps.{overlap}
use Rattle.lpt_ground.specs.Passes.{pass_begun, state_of}
use Rattle.lpt_ground.specs.Plans.{requests_planned}
use Rattle.lpt_c_ground.specs.Codes.{bad_area, long_job, range}
use Rattle.lpt_c_ground.specs.Jobs.{each_of, is_job, kind_from, terms_of}
use Rattle.lpt_c_ground.specs.declared.grounds.Ground.{Ground}
use Rattle.lpt_c_ground.specs.declared.jobs.JobKind.{JobKind}
use Rattle.lpt_c_ground.specs.declared.jobs.JobKind.TheVariants.{Load, Dump, Check}
use Rattle.lpt_c_ground.specs.declared.jobs.LptJob.{LptJob}
use Rattle.lpt_c_ground.specs.declared.jobs.LptPlace.{LptPlace}

-- ---- places

-- a place as requests have it
abbrev pub place_of : LptPlace → AreaPlace
place_of p = record { address = p.address; len = p.len }

-- the areas of places, whose octets stand in a content one behind the other
abbrev pub areas_of : List LptPlace → (content : List ℕ) → List Area
areas_of [] content = []
areas_of (p ∷ rest) content =
    record { address = p.address; octets = take p.len content }
    ∷ areas_of rest (drop p.len content)

-- whether the places have so many octets together
abbrev pub have_together : List LptPlace → (len : ℕ) → Bool
have_together [] len = len == 0
have_together (p ∷ rest) len = nat_le p.len len && have_together rest (len - p.len)

-- whether a place shares an address with one of these
abbrev pub overlaps_one : LptPlace → List LptPlace → Bool
overlaps_one p [] = false
overlaps_one p (q ∷ rest) = overlap (place_of p) (place_of q) || overlaps_one p rest

-- whether two of these places share one
abbrev pub some_overlap : List LptPlace → Bool
some_overlap [] = false
some_overlap (p ∷ rest) = overlaps_one p rest || some_overlap rest

-- how many requests of so many octets at most they take
abbrev pub how_many : (each : ℕ) → List LptPlace → ℕ
how_many each [] = 0
how_many each (p ∷ rest) = div_ceil p.len each + how_many each rest

-- how many requests a pass has at most
abbrev pub most : ℕ
most = 16384

-- ---- why there are none

-- no two places of a load share an address
abbrev pub apart_refusal : List LptPlace → Option ℕ
apart_refusal places = if some_overlap places then Some bad_area else None

-- a load has as many octets as its places
abbrev pub content_refusal : JobKind → List LptPlace → (content : List ℕ) → Option ℕ
content_refusal Load places content =
    if have_together places (length content) then apart_refusal places else Some range
content_refusal Dump places content = None
content_refusal Check places content = None

-- or else there are too many
abbrev pub many_refusal : JobKind → (each : ℕ) → List LptPlace → (content : List ℕ) → Option ℕ
many_refusal kind each places content =
    if nat_lt most (how_many each places) then Some long_job
    else content_refusal kind places content

-- or else a place has a fault
abbrev pub fault_refusal : Option CutFault → Option ℕ → Option ℕ
fault_refusal (Some fault) refusal = Some bad_area
fault_refusal None refusal = refusal

-- why a job has no pass: a number out of its range, a place without octets or behind the last
-- address, too many requests, another content than a load's places have room for, or two of these
-- that share an address
abbrev pub new_refusal : LptJob → List LptPlace → (content : List ℕ) → Option ℕ
new_refusal j places content =
    if is_job j then
    fault_refusal (places_fault (map place_of places))
    (many_refusal (kind_from j.kind) (each_of (kind_from j.kind) j.part_size) places content)
    else Some range

-- ---- the requests

-- they load these areas, area by area, of each so many octets at a time
pub record AreLoads (each memory : ℕ) (areas : List Area) (requests : List Request) : Type 0 where
  pub pieces : List Area
  pub cut : AreasCut each areas pieces
  pub ask : map view requests ≡ map (as_load memory) pieces

-- they read these places in the same way
pub record AreReads (what : Read) (each memory : ℕ) (places : List AreaPlace)
    (requests : List Request) : Type 0 where
  pub ranges : List AreaRange
  pub cut : ArePlacesCut each places ranges
  pub ask : map view requests ≡ map (as_read what memory) ranges

-- they do what a job of this kind does
abbrev pub AreOf : JobKind → (each memory : ℕ) → List LptPlace → (content : List ℕ)
    → List Request → Type 0
AreOf Load each memory places content requests =
    AreLoads each memory (areas_of places content) requests
AreOf Dump each memory places content requests =
    AreReads reads.Dump each memory (map place_of places) requests
AreOf Check each memory places content requests =
    AreReads reads.Check each memory (map place_of places) requests

-- the pass of a job that isn't refused, as it begins: of its requests, no more than have a request
-- ID of their own
pub record IsNew (j : LptJob) (places : List LptPlace) (content : List ℕ)
    (g : Ground) : Type 0 where
  pub unrefused : new_refusal j places content ≡ None
  pub requests : List Request
  pub are : AreOf (kind_from j.kind) (each_of (kind_from j.kind) j.part_size) j.memory places
      content requests
  pub few : length requests ≤ most
  pub state : state_of g.pass
      ≡ pass_begun (terms_of j) (requests_planned j.apid j.source j.count j.flags requests)
  pub terms : g.pass.terms ≡ terms_of j
