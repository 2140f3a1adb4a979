-- What is cut out of octets are octets.
use Rattle.std.proofs.Common.{◌-◌, length, drop, arith}
use Rattle.lpt_packet.specs.Numbers.{IsOctets}
use Rattle.lpt_packet.proofs.OctetLists.{IsOctets-take, IsOctets-drop}
use Rattle.lpt_layout.proofs.packet_reading.bare_packet.Goals as goal

pub invariant_of-result-clause-octets : goal.invariant_of-result-clause-octets
invariant_of-result-clause-octets c =
    let b = c.args.bytes.now in
    let octets : IsOctets b = λ i. omega (arith, c.type_inv.bytes i) in
    IsOctets-take (length b - 6) (drop 6 b) (IsOctets-drop 6 b octets)
