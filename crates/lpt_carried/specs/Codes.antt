-- The time codes of CCSDS 301.0-B, and their preamble field.
use Rattle.std.specs.Prelude.{ℕ, ◌+◌, ◌-◌, ◌*◌, ◌==◌, ◌&&◌, nat_le, Bool, true, false, if◌then◌else◌, List, [], ◌∷◌, Option, Some, None}
use Rattle.std.specs.Option.{unwrap_or}
use Rattle.lpt_carried.specs.declared.code.Submillisecond.{Submillisecond}
use Rattle.lpt_carried.specs.declared.code.Submillisecond.TheVariants.{Absent, Microseconds, Picoseconds}
use Rattle.lpt_carried.specs.declared.code.TimeCode.{TimeCode}
use Rattle.lpt_carried.specs.declared.code.TimeFields.{TimeFields}
use Rattle.lpt_carried.specs.declared.code.TimeFields.TheVariants.{Unsegmented, DaySegmented}

-- ---- lengths

-- a preamble field's octets
abbrev pub preamble_octets : Bool → ℕ
preamble_octets true = 1
preamble_octets _ = 0

-- the octets of days
abbrev pub day_octets : (long : Bool) → ℕ
day_octets true = 3
day_octets _ = 2

-- those of parts of a millisecond
abbrev pub octets_of : Submillisecond → ℕ
octets_of Absent = 0
octets_of Microseconds = 2
octets_of Picoseconds = 4

-- how many such parts a millisecond has, and in how many decimal digits they are written
abbrev pub parts_in : Submillisecond → ℕ
parts_in Absent = 1
parts_in Microseconds = 1000
parts_in Picoseconds = 1000000000

abbrev pub places_of : Submillisecond → ℕ
places_of Absent = 0
places_of Microseconds = 3
places_of Picoseconds = 9

-- the octets behind a preamble field
abbrev pub field_octets : TimeFields → ℕ
field_octets (Unsegmented coarse fine) = coarse + fine
field_octets (DaySegmented long s) = day_octets long + 4 + octets_of s

-- the octets of a code
abbrev pub code_octets : TimeCode → ℕ
code_octets c = preamble_octets c.preamble + field_octets c.fields

-- seconds have 1 to 4 octets, and parts of one at most 3
abbrev pub lengths_fit : TimeFields → Bool
lengths_fit (Unsegmented coarse fine) = nat_le 1 coarse && nat_le coarse 4 && nat_le fine 3
lengths_fit (DaySegmented long s) = true

-- ---- the preamble field

-- bit 5 of a day segmented code's: whether days have 24 bits
abbrev pub day_bit : (long : Bool) → ℕ
day_bit true = 4
day_bit _ = 0

-- its bits 6 and 7: what stands behind the milliseconds
abbrev pub part_bits : Submillisecond → ℕ
part_bits Absent = 0
part_bits Microseconds = 1
part_bits Picoseconds = 2

-- The octet of a code's preamble field, by whether the epoch is the agency's own. Bit 0 is 0: no
-- second octet follows. Bits 1 to 3 are the code: 001 counts seconds since 1958, 010 since the
-- agency's epoch; bits 4 and 5 are the octets of seconds, less one, and 6 and 7 those of parts.
-- 100 counts days, and bit 4 says that the epoch is the agency's.
abbrev pub preamble_of : TimeFields → (agency : Bool) → ℕ
preamble_of (Unsegmented coarse fine) false = 16 * 1 + 4 * (coarse - 1) + fine
preamble_of (Unsegmented coarse fine) true = 16 * 2 + 4 * (coarse - 1) + fine
preamble_of (DaySegmented long s) false = 16 * 4 + day_bit long + part_bits s
preamble_of (DaySegmented long s) true = 16 * 4 + 8 + day_bit long + part_bits s

-- 1 January 1958, as a number of days behind 1 January 1900
abbrev pub epoch_1958 : ℕ
epoch_1958 = 21184

-- the day that a code counts from
abbrev pub epoch_of : TimeCode → ℕ
epoch_of c = unwrap_or c.epoch epoch_1958

-- the same if the octet of its preamble field says so: since 1958, if no other epoch is
-- given, or since the agency's, if that is given
abbrev pub epoch_by : TimeCode → (octet : ℕ) → Option ℕ
epoch_by c x =
    if x == preamble_of c.fields false
    then (if epoch_of c == epoch_1958 then Some epoch_1958 else None)
    else (if x == preamble_of c.fields true then c.epoch else None)

-- the same by the octets of the field: none, or one
abbrev pub epoch_in : TimeCode → List ℕ → Option ℕ
epoch_in c [] = Some (epoch_of c)
epoch_in c (x ∷ xs) = epoch_by c x
