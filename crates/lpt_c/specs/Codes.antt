-- The numbers that calls answer.
use Rattle.std.specs.Prelude.{ℕ}
use Rattle.lpt_pus.specs.FaultNames as pus
use Rattle.lpt_pus.specs.declared.fault.PusFault.TheVariants as pus_fault
use Rattle.lpt_packet.specs.FaultNames as packet
use Rattle.lpt_packet.specs.declared.fault.PacketFault.TheVariants as packet_fault
use Rattle.lpt_memory.specs.FaultNames as memory
use Rattle.lpt_memory.specs.declared.fault.MemoryFault.TheVariants as memory_fault
use Rattle.lpt_part.specs.FaultNames as part
use Rattle.lpt_part.specs.declared.fault.PartFault.TheVariants as part_fault

-- the library's version, 0.1.0
abbrev pub version_number : ℕ
version_number = 1000

-- it is done
abbrev pub all_done : ℕ
all_done = 0

-- ---- faults that have their numbers elsewhere

-- no packet begins with another version than 000
abbrev pub version : ℕ
version = packet.code_of packet_fault.Version

-- a checksum isn't that of its octets
abbrev pub wrong_checksum : ℕ
wrong_checksum = packet.code_of packet_fault.Checksum

-- the packet would be longer than the longest
abbrev pub too_long : ℕ
too_long = pus.code_of pus_fault.TooLong

-- a part's number is 0, or one that its kind doesn't have; it has another length than its kind
abbrev pub zero_number : ℕ
zero_number = part.code_of part_fault.Zero

abbrev pub kind_number_fault : ℕ
kind_number_fault = part.code_of part_fault.KindNumber

abbrev pub part_length : ℕ
part_length = part.code_of part_fault.PartLength

-- a load's packet would be longer than the longest
abbrev pub long_load : ℕ
long_load = memory.code_of memory_fault.TooLong

-- a request names no area of a memory, more than 255, or an empty one
abbrev pub bad_area : ℕ
bad_area = memory.code_of memory_fault.BadArea

-- a message to be split isn't longer than a part, or is longer than the longest; it has no such
-- part
abbrev pub short_message : ℕ
short_message = 42

abbrev pub long_message : ℕ
long_message = 43

abbrev pub no_such_part : ℕ
no_such_part = 46

-- ---- numbers of these calls alone

-- an idle packet
abbrev pub idle : ℕ
idle = 101

-- a number is out of its range
abbrev pub range : ℕ
range = 102

-- the buffer is too short
abbrev pub room : ℕ
room = 103

-- the octets don't say it yet
abbrev pub more : ℕ
more = 104

-- the body is no report
abbrev pub no_report : ℕ
no_report = 105
