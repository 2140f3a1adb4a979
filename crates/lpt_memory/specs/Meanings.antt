-- What a message means for memories of these identifiers and sizes.
use Rattle.std.specs.Prelude.{ℕ, ◌+◌, List, [], ◌∷◌, length, map, sum_by, Option, Some, None, nat_lt, ◌==◌, if◌then◌else◌}
use Rattle.lpt_packet.specs.Checksums.{checksum}
use Rattle.lpt_pus.specs.declared.failure_code.FailureCode.{FailureCode}
use Rattle.lpt_pus.specs.declared.failure_code.FailureCode.TheVariants.{UnknownRequest, MalformedBody, UnknownMemory, OutOfRange, WrongChecksum, ReplyTooLong}
use Rattle.lpt_pus.specs.Commands.{Command, command_in}
use Rattle.lpt_memory.specs.declared.request.Area.{Area}
use Rattle.lpt_memory.specs.declared.request.AreaRange.{AreaRange}
use Rattle.lpt_packet.specs.Sizes.{longest_packet}
use Rattle.lpt_memory.specs.Requests.{LoadArea, Request, front_load_area, front_range, request_in}
use Rattle.lpt_memory.specs.Limits.{dump_head, area_header}

-- no telecommand, one with a fault of this code, or a request
pub data Meaning : Type 0 where
  Silent : Meaning
  Fault : (code : FailureCode) → Meaning
  Load : (memory : ℕ) → (areas : List Area) → Meaning
  Dump : (memory : ℕ) → (ranges : List AreaRange) → Meaning
  Check : (memory : ℕ) → (ranges : List AreaRange) → Meaning

-- the identifier and the size of each memory
abbrev pub Sizes : Type 0
Sizes = List (ℕ × ℕ)

-- the size of a memory
abbrev pub size_of : ℕ → Sizes → Option ℕ
size_of id [] = None
size_of id (m ∷ ms) = if m.0 == id then Some m.1 else size_of id ms

-- the first fault of a load's areas: one out of range, or a wrong checksum, area by area
abbrev pub load_fault : ℕ → List LoadArea → Option FailureCode
load_fault size [] = None
load_fault size (a ∷ rest) =
    if nat_lt size (a.address + length a.octets) then Some OutOfRange
    else if checksum a.octets == a.checksum then load_fault size rest
    else Some WrongChecksum

-- the first fault of ranges: one that isn't within the memory
abbrev pub range_fault : ℕ → List AreaRange → Option FailureCode
range_fault size [] = None
range_fault size (r ∷ rest) =
    if nat_lt size (r.address + r.len) then Some OutOfRange else range_fault size rest

-- an area of a load, without its checksum
abbrev pub area : LoadArea → Area
area a = record { address = a.address; octets = a.octets }

-- the octets of the packet that answers a dump: 21, and in each area 8 and its octets
abbrev pub dump_length : List AreaRange → ℕ
dump_length ranges = dump_head + sum_by (λ r. area_header + r.len) ranges

-- the fault of this code, or else this
abbrev pub unless : Option FailureCode → Meaning → Meaning
unless (Some code) m = Fault code
unless None m = m

-- a load, or the first fault of its areas
abbrev pub load_meaning : ℕ → Request LoadArea → Meaning
load_meaning size r = unless (load_fault size r.areas) (Load r.memory (map area r.areas))

-- a dump, the first fault of its ranges, or that its answer is longer than a packet can be
abbrev pub dump_meaning : ℕ → Request AreaRange → Meaning
dump_meaning size r =
    unless (range_fault size r.areas)
    (if nat_lt longest_packet (dump_length r.areas) then Fault ReplyTooLong else Dump r.memory r.areas)

-- a check, or the first fault of its ranges
abbrev pub check_meaning : ℕ → Request AreaRange → Meaning
check_meaning size r = unless (range_fault size r.areas) (Check r.memory r.areas)

-- what a request means in a memory of this size, or that there is no such memory
abbrev pub in_memory : {A : Type 0} → (ℕ → Request A → Meaning) → Request A → Option ℕ → Meaning
in_memory means r None = Fault UnknownMemory
in_memory means r (Some size) = means size r

-- what a body means, or that it is malformed
abbrev pub if_formed : {A : Type 0}
    → Sizes
    → (ℕ → Request A → Meaning)
    → Option (Request A)
    → Meaning
if_formed sizes means None = Fault MalformedBody
if_formed sizes means (Some r) = in_memory means r (size_of r.memory sizes)

-- what the body of a telecommand means, or that its service and subtype are none of these
unfoldable pub body_meaning : Sizes → ℕ → ℕ → List ℕ → Meaning
body_meaning sizes service subtype body =
    if service == 6 then
    (if subtype == 2 then if_formed sizes load_meaning (request_in front_load_area body)
    else if subtype == 5 then if_formed sizes dump_meaning (request_in front_range body)
    else if subtype == 9 then if_formed sizes check_meaning (request_in front_range body)
    else Fault UnknownRequest)
    else Fault UnknownRequest

-- what a telecommand means
abbrev pub command_meaning : Sizes → Option Command → Meaning
command_meaning sizes None = Silent
command_meaning sizes (Some c) = body_meaning sizes c.service c.subtype c.body

-- what a message means at a node with this APID
unfoldable pub meaning : ℕ → Sizes → List ℕ → Meaning
meaning apid sizes message = command_meaning sizes (command_in apid message)
