-- Requests to a memory, and what their packets mean.
use Rattle.std.specs.Prelude.{◌≡◌, ℕ, ◌^◌, ◌<◌, ◌≤◌, ◌==◌, ◌||◌, nat_lt, Bool, false, if◌then◌else◌, List, [], ◌∷◌, length, map, Option, Some, None}
use Rattle.lpt_packet.specs.Packets.{spelling}
use Rattle.lpt_pus.specs.Commands.{packet_of}
use Rattle.lpt_memory.specs.declared.fault.MemoryFault.{MemoryFault}
use Rattle.lpt_memory.specs.declared.fault.MemoryFault.TheVariants.{BadArea}
use Rattle.lpt_memory.specs.declared.request.AreaRange.{AreaRange}
use Rattle.lpt_memory.specs.Meanings.{Dump as DumpOf, Check as CheckOf, Sizes, size_of, dump_length, meaning}
use Rattle.lpt_memory.specs.Ranges.{MeansLoad, RangesFit}
use Rattle.lpt_memory.specs.Spellings.{body_text, load_text, range_text, write_fault}
use Rattle.lpt_requests.specs.declared.request.Range.{Range}
use Rattle.lpt_requests.specs.declared.request.Request.{Request}
use Rattle.lpt_requests.specs.declared.request.Request.TheVariants.{Load, Dump, Check}
use Rattle.lpt_memory.specs.Limits.{area_limit}
use Rattle.lpt_packet.specs.Sizes.{longest_packet}

-- ---- places

-- a place, as the memory service has it
abbrev pub as_range : Range → AreaRange
as_range r = record { address = r.address; len = r.len }

-- a place that can be spelled
abbrev pub IsInRange : Range → Type 0
IsInRange r = (r.address < 2 ^ 32) × (r.len < 2 ^ 16)

-- whether one of the places has no octets
abbrev pub any_empty : List Range → Bool
any_empty [] = false
any_empty (r ∷ rest) = r.len == 0 || any_empty rest

-- the fault of a dump or a check: no place, more than 255, or one without octets
abbrev pub range_fault : List Range → Option MemoryFault
range_fault ranges =
    if length ranges == 0 || nat_lt area_limit (length ranges) || any_empty ranges then Some BadArea
    else None

-- the octets mean that dump, in all memories that it is within, if its answer fits a packet
abbrev pub MeansDump : ℕ → List ℕ → ℕ → List AreaRange → Type 0
MeansDump apid octets id ranges =
    (sizes : Sizes) (size : ℕ) → size_of id sizes ≡ Some size → RangesFit size ranges
    → dump_length ranges ≤ longest_packet → meaning apid sizes octets ≡ DumpOf id ranges

-- the octets mean that check, in all memories that it is within
abbrev pub MeansCheck : ℕ → List ℕ → ℕ → List AreaRange → Type 0
MeansCheck apid octets id ranges =
    (sizes : Sizes) (size : ℕ) → size_of id sizes ≡ Some size → RangesFit size ranges
    → meaning apid sizes octets ≡ CheckOf id ranges

-- ---- requests

-- the message subtype
abbrev pub subtype_of : Request → ℕ
subtype_of (Load memory areas) = 2
subtype_of (Dump memory ranges) = 5
subtype_of (Check memory ranges) = 9

-- the body
abbrev pub request_text : Request → List ℕ
request_text (Load memory areas) = load_text memory areas.items
request_text (Dump memory ranges) = body_text range_text memory (map as_range ranges.items)
request_text (Check memory ranges) = body_text range_text memory (map as_range ranges.items)

-- the packet
abbrev pub request_packet : (apid source count flags : ℕ) → Request → List ℕ
request_packet apid source count flags request = spelling (packet_of (record {
  apid = apid;
  count = count;
  flags = flags;
  service = 6;
  subtype = subtype_of request;
  source = source;
  body = request_text request;
}))

-- the first fault, if there is one
abbrev pub request_fault : Request → Option MemoryFault
request_fault (Load memory areas) = write_fault areas.items
request_fault (Dump memory ranges) = range_fault ranges.items
request_fault (Check memory ranges) = range_fault ranges.items

-- the octets mean that request at a node with this APID, in all memories that it is within
abbrev pub Means : ℕ → List ℕ → Request → Type 0
Means apid octets (Load memory areas) = MeansLoad apid octets memory areas.items
Means apid octets (Dump memory ranges) =
    MeansDump apid octets memory (map as_range ranges.items)
Means apid octets (Check memory ranges) =
    MeansCheck apid octets memory (map as_range ranges.items)
