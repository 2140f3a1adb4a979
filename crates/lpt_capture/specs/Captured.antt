-- What a file of classic pcap holds: the octets of its records, and what is wrong with it. Other
-- octets are taken as they are.
use Rattle.std.specs.Prelude.{ℕ, suc, zero, ◌+◌, ◌-◌, ◌*◌, ◌^◌, ◌==◌, ◌&&◌, ◌||◌, nat_lt, nat_le, min, Bool, true, false, if◌then◌else◌, List, [], ◌++◌, length, take, drop, slice_index, Option, Some, None}
use Rattle.lpt_packet.specs.Sizes.{longest_packet}
use Rattle.lpt_capture.specs.declared.fault.CaptureFault.{CaptureFault}
use Rattle.lpt_capture.specs.declared.fault.CaptureFault.TheVariants.{Header, Short, LinkType, Size, Pcapng}

-- ---- what is found

-- octets of packets, and what is wrong behind them, if anything is
pub record Finding : Type 0 where
  pub octets : List ℕ
  pub fault : Option CaptureFault

-- these octets are found, and nothing is wrong
abbrev pub sound : List ℕ → Finding
sound b = record { octets = b; fault = None }

-- these are, and then this is wrong
abbrev pub broken_finding : List ℕ → CaptureFault → Finding
broken_finding b fault = record { octets = b; fault = Some fault }

-- these octets, and then what is found behind them
abbrev pub before : List ℕ → Finding → Finding
before b f = record { octets = b ++ f.octets; fault = f.fault }

-- ---- the front of the file

-- the 32-bit number at a place, its greatest octet first, or last if the order is turned
abbrev pub number_at : (turned : Bool) → List ℕ → ℕ → ℕ
number_at false b i =
    16777216 * slice_index b i + 65536 * slice_index b (i + 1) + 256 * slice_index b (i + 2)
    + slice_index b (i + 3)
number_at true b i =
    16777216 * slice_index b (i + 3) + 65536 * slice_index b (i + 2) + 256 * slice_index b (i + 1)
    + slice_index b i

-- whether a file begins with these four octets
abbrev pub begins_so : (w x y z : ℕ) → List ℕ → Bool
begins_so w x y z b =
    nat_le 4 (length b)
    && ((slice_index b 0 == w) && ((slice_index b 1 == x)
    && ((slice_index b 2 == y) && (slice_index b 3 == z))))

-- whether the numbers of a capture are turned, as the octets in front of it show: times are in
-- microseconds, or in nanoseconds; none of other octets
abbrev pub order_of : List ℕ → Option Bool
order_of b =
    if begins_so 0xa1 0xb2 0xc3 0xd4 b || begins_so 0xa1 0xb2 0x3c 0x4d b then Some false
    else if begins_so 0xd4 0xc3 0xb2 0xa1 b || begins_so 0x4d 0x3c 0xb2 0xa1 b then Some true
    else None

-- ---- its records

-- so many octets of a record that begins at this place are still to come, and then others
abbrev pub in_record : (at left : ℕ) → List ℕ → (others : List ℕ → Finding) → Finding
in_record at left b others =
    if nat_lt (length b) left then broken_finding b (Short at)
    else before (take left b) (others (drop left b))

-- the place behind a record; places end at the greatest of 64 bits
abbrev pub place_behind : (at size : ℕ) → ℕ
place_behind at size = min (at + (16 + size)) (2 ^ 64 - 1)

-- the first n records, or fewer, from this place on: a record's header says how many octets it has
abbrev pub some_records : (n : ℕ) → (turned : Bool) → (at : ℕ) → List ℕ → Finding
some_records zero turned at b = sound []
some_records (suc n) turned at b =
    if length b == 0 then sound []
    else if nat_lt (length b) 16 then broken_finding [] (Short at)
    else if (number_at turned b 8 == 0) || nat_lt longest_packet (number_at turned b 8)
    then broken_finding [] (Size at (number_at turned b 8))
    else in_record at (number_at turned b 8) (drop 16 b)
    (some_records n turned (place_behind at (number_at turned b 8)))

-- all records; each has more than one octet, so there are no more of them than octets
unfoldable pub records_of : (turned : Bool) → (at : ℕ) → List ℕ → Finding
records_of turned at b = some_records (length b) turned at b

-- ---- the file

-- a capture: nothing is found if its front isn't whole, or if it has another link type
abbrev pub found_in_capture : (turned : Bool) → List ℕ → Finding
found_in_capture turned b =
    if nat_lt (length b) 24 then broken_finding [] Header
    else if number_at turned b 20 == 147 then records_of turned 24 (drop 24 b)
    else broken_finding [] (LinkType (number_at turned b 20))

-- whether a file begins as one of the form pcapng does
abbrev pub is_pcapng : List ℕ → Bool
is_pcapng b = begins_so 0x0a 0x0d 0x0d 0x0a b

-- octets that are no capture: those of another form of captures aren't taken for packets
abbrev pub found_in_other : List ℕ → Finding
found_in_other b = if is_pcapng b then broken_finding [] Pcapng else sound b

-- a capture, or octets that are none
abbrev pub found_by : Option Bool → List ℕ → Finding
found_by None b = found_in_other b
found_by (Some turned) b = found_in_capture turned b

-- what is found in a file
unfoldable pub found_in : List ℕ → Finding
found_in b = found_by (order_of b) b
