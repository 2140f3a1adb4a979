-- What the bodies of requests mean, whatever stands before them.
use Rattle.std.specs.Prelude.{◌≡◌, ℕ, ◌≤◌, map, Some}
use Rattle.lpt_memory.specs.Meanings.{Check as CheckOf, Dump as DumpOf, Load as LoadOf, Meaning, Sizes, body_meaning, dump_length, size_of}
use Rattle.lpt_memory.specs.Ranges.{AreasFit, RangesFit}
use Rattle.lpt_packet.specs.Sizes.{longest_packet}
use Rattle.lpt_requests.specs.declared.request.Request.{Request}
use Rattle.lpt_requests.specs.declared.request.Request.TheVariants.{Load, Dump, Check}
use Rattle.lpt_requests.specs.Requests.{as_range, request_text, subtype_of}

-- what is meant in memories of these sizes is that request, if it is within them
abbrev pub IsMeant : (Sizes → Meaning) → Request → Type 0
IsMeant meant (Load memory areas) =
    (sizes : Sizes) (size : ℕ) → size_of memory sizes ≡ Some size → AreasFit size areas.items
    → meant sizes ≡ LoadOf memory areas.items
IsMeant meant (Dump memory ranges) =
    (sizes : Sizes) (size : ℕ) → size_of memory sizes ≡ Some size
    → RangesFit size (map as_range ranges.items)
    → dump_length (map as_range ranges.items) ≤ longest_packet
    → meant sizes ≡ DumpOf memory (map as_range ranges.items)
IsMeant meant (Check memory ranges) =
    (sizes : Sizes) (size : ℕ) → size_of memory sizes ≡ Some size
    → RangesFit size (map as_range ranges.items)
    → meant sizes ≡ CheckOf memory (map as_range ranges.items)

-- its body, of service 6 and its message subtype, means that request
abbrev pub BodyMeans : Request → Type 0
BodyMeans r = IsMeant (λ sizes. body_meaning sizes 6 (subtype_of r) (request_text r)) r
