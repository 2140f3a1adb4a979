-- Packets as a capture: a file of classic pcap, version 2.4, its numbers the greatest octet first.
use Rattle.std.specs.Prelude.{ℕ, List, ◌++◌, length}
use Rattle.std.specs.List.{flat_map}
use Rattle.lpt_packet.specs.Numbers.{be}
use Rattle.lpt_packet.specs.Sizes.{longest_packet}

-- the number by which a capture is known, and the order of its octets
abbrev pub magic : ℕ
magic = 0xa1b2c3d4

-- what its records are: of a kind that its user chooses, the first of sixteen
abbrev pub link_type : ℕ
link_type = 147

-- the front of the file: the magic 32 bits, version 16 and 16, zone and accuracy of the times 32
-- and 32, the longest record 32, the link type 32
unfoldable pub capture_header : List ℕ
capture_header =
    be magic 4 ++ be 2 2 ++ be 4 2 ++ be 0 4 ++ be 0 4 ++ be longest_packet 4 ++ be link_type 4

-- the front of a record: seconds 32 bits, microseconds 32, the octets that are there 32, and those
-- that there were 32
unfoldable pub record_header : (time size : ℕ) → List ℕ
record_header time size = be time 4 ++ be 0 4 ++ be size 4 ++ be size 4

-- the record of a packet of this time in seconds
abbrev pub record_of : (time : ℕ) → List ℕ → List ℕ
record_of time packet = record_header time (length packet) ++ packet

-- the capture of packets, all of them of this time
abbrev pub capture_of : (time : ℕ) → List (List ℕ) → List ℕ
capture_of time packets = capture_header ++ flat_map (record_of time) packets
