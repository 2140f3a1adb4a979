-- What the code's values stand for.
use Rattle.std.specs.Prelude.{ℕ, ◌+◌, ◌-◌, ◌<◌, ◌≤◌, List, [], ◌∷◌, length, take, drop, map}
use Rattle.lpt_packet.specs.Sizes.{primary_header, error_control}
use Rattle.lpt_pus.specs.Sizes.{tc_header}
use Rattle.lpt_memory.specs.declared.request.Area.{Area}
use Rattle.lpt_memory.specs.declared.request.StoredArea.{StoredArea}
use Rattle.lpt_memory.specs.declared.request.Plan.{Plan}
use Rattle.lpt_memory.specs.declared.request.Plan.TheVariants as plans
use Rattle.lpt_memory.specs.Requests.{LoadArea}
use Rattle.lpt_memory.specs.Meanings.{Meaning, Silent, Fault, Load, Dump, Check, area}

-- what stands where a telecommand has its body: behind its headers, before its packet's checksum
abbrev pub body_of : List ℕ → List ℕ
body_of message =
    drop (primary_header + tc_header) (take (length message - error_control) message)

-- the octets of an area, in the body that it stands in
abbrev pub octets_at : List ℕ → StoredArea → List ℕ
octets_at body a = take a.len (drop a.from body)

-- an area of a load, with its octets
abbrev pub load_area : List ℕ → StoredArea → LoadArea
load_area body a = record {
  address = a.address;
  octets = octets_at body a;
  checksum = a.checksum;
}

-- the areas that are to be put over a memory
abbrev pub areas_in : List ℕ → List StoredArea → List Area
areas_in body areas = map area (map (load_area body) areas)

-- the octets of the areas lie within a body of so many octets
abbrev pub AreWithin : ℕ → List StoredArea → Type 0
AreWithin len [] = Unit {0}
AreWithin len (a ∷ rest) = (a.from + a.len ≤ len) × AreWithin len rest

-- what a plan stands for, at a message with this body
abbrev pub plan_meaning : List ℕ → Plan → Meaning
plan_meaning body plans.Silent = Silent
plan_meaning body (plans.Code c) = Fault c
plan_meaning body (plans.Load m areas) = Load m (areas_in body areas.items)
plan_meaning body (plans.Dump m ranges) = Dump m ranges.items
plan_meaning body (plans.Check m ranges) = Check m ranges.items

-- the areas of a load lie within the body
abbrev pub IsWithin : List ℕ → Plan → Type 0
IsWithin body plans.Silent = Unit {0}
IsWithin body (plans.Code c) = Unit {0}
IsWithin body (plans.Load m areas) = AreWithin (length body) areas.items
IsWithin body (plans.Dump m ranges) = Unit {0}
IsWithin body (plans.Check m ranges) = Unit {0}

-- there are no more ranges than an octet counts
abbrev pub IsCounted : Plan → Type 0
IsCounted plans.Silent = Unit {0}
IsCounted (plans.Code c) = Unit {0}
IsCounted (plans.Load m areas) = Unit {0}
IsCounted (plans.Dump m ranges) = length ranges.items < 256
IsCounted (plans.Check m ranges) = length ranges.items < 256
