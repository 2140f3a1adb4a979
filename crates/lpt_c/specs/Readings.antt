-- What a reader answers, and what it leaves where its answer goes.
use Rattle.std.specs.Prelude.{ℕ, List, Result, Ok, Err}
use Rattle.lpt_packet.specs.declared.fault.PacketFault.{PacketFault}
use Rattle.lpt_packet.specs.FaultNames.{code_of}
use Rattle.lpt_packet.specs.Packets.{Fields, Sight, IdlePacket, APacket, verdict}
use Rattle.lpt_pus.specs.declared.fault.PusFault.{PusFault}
use Rattle.lpt_pus.specs.FaultNames as pus
use Rattle.lpt_c.specs.Codes.{all_done, idle}

-- what it answers: of what was read 0, else the number of the fault
abbrev pub code_read : {X : Type 0} → Result X ℕ → ℕ
code_read (Ok x) = all_done
code_read (Err fault) = fault

-- what is left: what was read, seen so, else what was there
abbrev pub left_in : {X Y : Type 0} → (X → Y) → Result X ℕ → Y → Y
left_in view (Ok x) old = view x
left_in view (Err fault) old = old

-- a packet, if it isn't idle
abbrev pub packet_of_sight : Result Sight PacketFault → Result Fields ℕ
packet_of_sight (Ok IdlePacket) = Err idle
packet_of_sight (Ok (APacket f)) = Ok f
packet_of_sight (Err e) = Err (code_of e)

-- the packet that octets are
abbrev pub packet_read : List ℕ → Result Fields ℕ
packet_read b = packet_of_sight (verdict b)

-- the message of a packet, or the fault of its headers
abbrev pub fault_numbered : {X : Type 0} → Result X PusFault → Result X ℕ
fault_numbered (Ok x) = Ok x
fault_numbered (Err e) = Err (pus.code_of e)

-- the message in the packet that was read
abbrev pub message_read : {X : Type 0} → (Fields → Result X PusFault) → Result Fields ℕ → Result X ℕ
message_read read (Ok f) = fault_numbered (read f)
message_read read (Err fault) = Err fault
