-- Reports of dumps, area by area.
use Rattle.std.specs.Prelude.{ℕ, zero, suc, ◌+◌, ◌==◌, if◌then◌else◌, List, [], ◌∷◌, length, take, drop, slice_index, Option, Some, None, Result, Ok, Err}
use Rattle.lpt_packet.specs.Checksums.{checksum}
use Rattle.lpt_memory.specs.Limits.{area_header}
use Rattle.lpt_memory.specs.Requests.{LoadArea, Request, front_load_area, request_in}
use Rattle.lpt_c.specs.declared.dumps.LptDumped.{LptDumped}
use Rattle.lpt_c.specs.declared.dumps.AreaPlace.{AreaPlace}
use Rattle.lpt_c.specs.Codes.{no_report, range, wrong_checksum}

-- an area, and where its octets stand in the body
pub record Placed : Type 0 where
  pub at : ℕ
  pub area : LoadArea

-- the area of a number, from 0, of those that stand one behind the other from a place on: each has
-- its octets behind a start address of 32 bits and a length of 16
abbrev pub area_placed : (at k : ℕ) → List LoadArea → Option Placed
area_placed at k [] = None
area_placed at zero (a ∷ rest) = Some (record { at = at + 6; area = a })
area_placed at (suc k) (a ∷ rest) = area_placed (at + (area_header + length a.octets)) k rest

-- an area as it is told, of a report that begins with the memory's identifier and how many it has
abbrev pub dumped_of : List ℕ → Placed → LptDumped
dumped_of body p = record {
  memory = slice_index body 0;
  areas = slice_index body 1;
  address = p.area.address;
  at = p.at;
  len = length p.area.octets;
}

-- it is told if there is one, with the checksum of its octets
abbrev pub if_sealed : List ℕ → Option Placed → Result LptDumped ℕ
if_sealed body None = Err range
if_sealed body (Some p) =
    if checksum p.area.octets == p.area.checksum then Ok (dumped_of body p) else Err wrong_checksum

-- the area of a number among those of a body, which stand behind two octets
abbrev pub in_report : List ℕ → ℕ → Option (Request LoadArea) → Result LptDumped ℕ
in_report body k None = Err no_report
in_report body k (Some r) = if_sealed body (area_placed 2 k r.areas)

-- the same; a report is encoded as a load's body
abbrev pub area_dumped : List ℕ → ℕ → Result LptDumped ℕ
area_dumped body k = in_report body k (request_in front_load_area body)

-- ---- what the code's values stand for

abbrev pub place_in : List ℕ → AreaPlace → Placed
place_in body p = record {
  at = p.at;
  area = record {
    address = p.address;
    octets = take p.len (drop p.at body);
    checksum = p.checksum;
  };
}
