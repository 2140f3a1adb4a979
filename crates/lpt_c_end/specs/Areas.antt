-- Where a load goes, and octets of a memory from an address on.
use Rattle.std.specs.Prelude.{◌≡◌, ℕ, ◌+◌, ◌==◌, nat_le, if◌then◌else◌, List, length, take, drop, Option, Some, None, Result, Ok, Err, is_some}
use Rattle.std.specs.Option.{option_and_then}
use Rattle.lpt_jobs.specs.Jobs.{oldest}
use Rattle.lpt_pus.specs.Commands.{Command, command_in}
use Rattle.lpt_c.specs.declared.dumps.LptDumped.{LptDumped}
use Rattle.lpt_c.specs.Dumps.{area_dumped}
use Rattle.lpt_c_end.specs.Codes.{empty, no_job, nothing, range}
use Rattle.lpt_c_end.specs.Copies.{Text}
use Rattle.lpt_c_end.specs.Kept.{content_by}
use Rattle.lpt_c_end.specs.declared.areas.LptArea.{LptArea}
use Rattle.lpt_c_end.specs.declared.end.End.{End}

-- ---- the areas of a load

-- the body of a load, if a telecommand is one
abbrev pub body_of_load : Command → Option (List ℕ)
body_of_load c =
    if c.service == 6 then (if c.subtype == 2 then Some c.body else None) else None

-- the body of the load that octets are the telecommand of, if they are one of this APID
abbrev pub load_in : (apid : ℕ) → List ℕ → Option (List ℕ)
load_in apid octets = option_and_then body_of_load (command_in apid octets)

-- an area that was read, as its memory and its place there
abbrev pub area_told : Result LptDumped ℕ → Option LptArea
area_told (Ok d) = Some (record { memory = d.memory; address = d.address; len = d.len })
area_told (Err fault) = None

-- where the area of a number goes, of the load that octets are; a load's body is encoded as the
-- report that answers a dump
abbrev pub area_in : (apid k : ℕ) → List ℕ → Option LptArea
area_in apid k octets =
    option_and_then (λ body. area_told (area_dumped body k)) (load_in apid octets)

-- the same, of the oldest job that waits
abbrev pub area_asked : (k : ℕ) → End → Option LptArea
area_asked k e = option_and_then (area_in e.config.apid k) (oldest e.node.at.jobs.jobs)

-- why none is told
abbrev pub area_refusal : (k : ℕ) → End → Option ℕ
area_refusal k e =
    if is_some (oldest e.node.at.jobs.jobs) then
    (if is_some (area_asked k e) then None else Some nothing)
    else Some no_job

-- the area of this number goes there
abbrev pub IsAreaAsked : (k : ℕ) → LptArea → End → Type 0
IsAreaAsked k area e = area_asked k e ≡ Some area

-- ---- octets of a memory

-- so many octets from a place on
abbrev pub range_in : (at len : ℕ) → List ℕ → Text
range_in at len octets =
    if nat_le (at + len) (length octets) then Ok (take len (drop at octets)) else Err range

-- the same of what a memory has, or why that isn't told
abbrev pub range_by : (at len : ℕ) → Text → Text
range_by at len (Err fault) = Err fault
range_by at len (Ok octets) = range_in at len octets

-- so many octets of a memory from an address on
abbrev pub octets_of : (id address len : ℕ) → Option End → Text
octets_of id address len None = Err empty
octets_of id address len (Some e) = range_by address len (content_by id e.memories)
