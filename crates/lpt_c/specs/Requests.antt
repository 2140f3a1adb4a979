-- Requests to a memory, as they are written.
use Rattle.std.specs.Prelude.{◌≡◌, ℕ, ◌^◌, ◌<◌, ◌≤◌, ◌==◌, ◌||◌, nat_lt, Bool, false, if◌then◌else◌, List, [], ◌∷◌, length, map, Some, Ok, Err}
use Rattle.lpt_packet.specs.Sizes.{longest_packet}
use Rattle.lpt_memory.specs.declared.request.AreaRange.{AreaRange}
use Rattle.lpt_memory.specs.Limits.{area_limit}
use Rattle.lpt_memory.specs.Meanings.{Dump, Check, Sizes, size_of, dump_length, body_meaning}
use Rattle.lpt_memory.specs.Ranges.{RangesFit}
use Rattle.lpt_memory.specs.Spellings.{body_text, range_text}
use Rattle.lpt_c.specs.declared.requests.LptRange.{LptRange}
use Rattle.lpt_c.specs.Buffers.{BufferText}
use Rattle.lpt_c.specs.Codes.{bad_area}

-- a place, as the memory service has it
abbrev pub range_of : LptRange → AreaRange
range_of r = record { address = r.address; len = r.len }

-- a place that can be spelled
abbrev pub IsInRange : LptRange → Type 0
IsInRange r = (r.address < 2 ^ 32) × (r.len < 2 ^ 16)

-- whether one of the places has no octets
abbrev pub any_empty : List LptRange → Bool
any_empty [] = false
any_empty (r ∷ rest) = r.len == 0 || any_empty rest

-- whether there is no place, there are more than 255, or one has no octets
abbrev pub are_unfit : List LptRange → Bool
are_unfit ranges =
    length ranges == 0 || nat_lt area_limit (length ranges) || any_empty ranges

-- the body of a dump or a check of these places
abbrev pub ranges_body : ℕ → List LptRange → List ℕ
ranges_body memory ranges = body_text range_text memory (map range_of ranges)

-- the body that is to be written, if the places can be asked for
abbrev pub ranges_text : ℕ → List LptRange → BufferText
ranges_text memory ranges =
    if are_unfit ranges then Err bad_area else Ok (ranges_body memory ranges)

-- a dump of this body means these places, in all memories that they are within, if the answer
-- fits a packet
abbrev pub MeansDump : List ℕ → ℕ → List AreaRange → Type 0
MeansDump body id ranges =
    (sizes : Sizes) (size : ℕ)
    → size_of id sizes ≡ Some size
    → RangesFit size ranges
    → dump_length ranges ≤ longest_packet
    → body_meaning sizes 6 5 body ≡ Dump id ranges

-- a check of this body means these places, in all memories that they are within
abbrev pub MeansCheck : List ℕ → ℕ → List AreaRange → Type 0
MeansCheck body id ranges =
    (sizes : Sizes) (size : ℕ)
    → size_of id sizes ≡ Some size
    → RangesFit size ranges
    → body_meaning sizes 6 9 body ≡ Check id ranges
