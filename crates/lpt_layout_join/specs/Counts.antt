-- How many sequence counts are missing among the packets of a stream.
use Rattle.std.specs.Prelude.{ℕ, ◌+◌, ◌-◌, ◌/◌, ◌%◌, ◌==◌, ◌&&◌, ◌||◌, not, nat_lt, Bool, if◌then◌else◌, List, [], ◌∷◌, length, Option, Some, None, bytes_eq}
use Rattle.lpt_stream.specs.Pieces.{up_to_limit}
use Rattle.lpt_packet.specs.Numbers.{word_at}
use Rattle.lpt_packet.specs.declared.direction.Direction.{Direction}
use Rattle.lpt_packet.specs.declared.direction.Direction.TheVariants.{Up, Down}
use Rattle.lpt_carried.specs.declared.reading.Reading.{Reading}

-- the packet type of what goes in a direction
abbrev pub type_of : Direction → ℕ
type_of Up = 1
type_of Down = 0

-- whether a primary header is of the APID and of a packet that goes this way
abbrev pub is_own : Reading → List ℕ → Bool
is_own r b =
    (word_at b 0 / 4096 % 2 == type_of r.direction) && (word_at b 0 % 2048 == r.apid)

-- the sequence count of such a packet, whatever it carries, if packets have no checksum; by another
-- layout none is looked at
unfoldable pub count_of : Reading → List ℕ → Option ℕ
count_of r b =
    if r.layout.has_checksum || nat_lt (length b) 7 || not (is_own r b) then None
    else Some (word_at b 2 % 16384)

-- the last packet of the APID that came, with its count; no octets if none came
pub record Latest : Type 0 where
  pub count : ℕ
  pub octets : List ℕ

abbrev pub no_latest : Latest
no_latest = record { count = 0; octets = [] }

-- how many counts lie between it and a packet of this count: none if it is the same packet again
abbrev pub gap_to : Latest → (count : ℕ) → List ℕ → ℕ
gap_to l n b =
    if (length l.octets == 0) || bytes_eq l.octets b then 0
    else (n + 16383 - l.count) % 16384

abbrev pub gap_by : Latest → Option ℕ → List ℕ → ℕ
gap_by l None b = 0
gap_by l (Some n) b = gap_to l n b

abbrev pub gap : Reading → Latest → List ℕ → ℕ
gap r l b = gap_by l (count_of r b) b

-- the last one, with a packet more
abbrev pub latest_by : Latest → Option ℕ → List ℕ → Latest
latest_by l None b = l
latest_by l (Some n) b = record { count = n; octets = b }

abbrev pub latest : Reading → Latest → List ℕ → Latest
latest r l b = latest_by l (count_of r b) b

-- how many are missing in packets behind the last one
abbrev pub missing_from : Reading → Latest → List (List ℕ) → ℕ
missing_from r l [] = 0
missing_from r l (b ∷ bs) = gap r l b + missing_from r (latest r l b) bs

-- how many are missing from the first of these packets to the last
abbrev pub missing_in : Reading → List (List ℕ) → ℕ
missing_in r bs = missing_from r no_latest bs

-- ---- as they come

-- the last packet of the APID, and how many counts are missing up to it; more than 2^64 - 1 are
-- counted as that
pub record Counted : Type 0 where
  pub latest : Latest
  pub missing : ℕ

abbrev pub nothing_counted : Counted
nothing_counted = record { latest = no_latest; missing = 0 }

-- a packet more came
abbrev pub counted_by : Counted → Option ℕ → List ℕ → Counted
counted_by c None b = c
counted_by c (Some n) b = record {
  latest = record { count = n; octets = b };
  missing = up_to_limit (c.missing + gap_to c.latest n b);
}

abbrev pub packet_counted : Reading → Counted → List ℕ → Counted
packet_counted r c b = counted_by c (count_of r b) b

-- packets came, one behind the other
abbrev pub all_counted : Reading → Counted → List (List ℕ) → Counted
all_counted r c [] = c
all_counted r c (b ∷ bs) = all_counted r (packet_counted r c b) bs
