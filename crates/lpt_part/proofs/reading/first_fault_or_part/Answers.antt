-- What is cut out of octets are octets.
use Rattle.std.proofs.Common.{◌-◌, length, drop, arith}
use Rattle.lpt_packet.specs.Numbers.{IsOctets}
use Rattle.lpt_packet.proofs.OctetLists.{IsOctets-take, IsOctets-drop}
use Rattle.lpt_part.proofs.reading.first_fault_or_part.Goals as goal

pub invariant_of-result-clause-are_octets : goal.invariant_of-result-clause-are_octets
invariant_of-result-clause-are_octets c =
    let b = c.args.body.now in
    let octets : IsOctets b = λ i. omega (arith, c.type_inv.body i) in
    IsOctets-take (length b - 4) (drop 4 b) (IsOctets-drop 4 b octets)
