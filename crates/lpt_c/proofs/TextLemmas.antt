-- How long what is written is.
use Rattle.std.proofs.Common.{◌≡◌, ℕ, ◌+◌, List, ◌++◌, length, arith, length-append}
use Rattle.lpt_packet.specs.declared.packet.PacketKind.{PacketKind}
use Rattle.lpt_packet.specs.Packets.{fields_of, spelling}
use Rattle.lpt_packet.proofs.Codec.{length-spelling}

-- a packet has eight octets besides the two pieces of its data field
pub length_packet : (kind : PacketKind) (apid count : ℕ) (h b : List ℕ)
    → length (spelling (fields_of kind apid count (h ++ b))) ≡ length h + length b + 8
length_packet kind apid count h b =
    omega (arith, length-spelling (fields_of kind apid count (h ++ b)), length-append h b)
