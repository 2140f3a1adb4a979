-- The numbers and names of the faults of packets.
use Rattle.std.specs.Prelude.{ℕ, List, codes}
use Rattle.lpt_packet.specs.declared.fault.PacketFault.{PacketFault}
use Rattle.lpt_packet.specs.declared.fault.PacketFault.TheVariants.{Short, Version, Length, Segmented, NoSecondary, Checksum}

-- the fault's number
abbrev pub code_of : PacketFault → ℕ
code_of Short = 1
code_of Version = 2
code_of Length = 3
code_of Segmented = 4
code_of NoSecondary = 5
code_of Checksum = 6

-- the fault's name
abbrev pub name_of : PacketFault → List ℕ
name_of Short = codes "Short"
name_of Version = codes "Version"
name_of Length = codes "Length"
name_of Segmented = codes "Segmented"
name_of NoSecondary = codes "NoSecondary"
name_of Checksum = codes "Checksum"
