-- What was tested is in its range. It is written out so that a wrong body is refused at once.
use Rattle.std.proofs.Common.{arith}
use Rattle.lpt_packet.proofs.packet.Packet.new.Goals as goal

pub invariant_of-result : goal.invariant_of-result
invariant_of-result c = record {
  in_range = record {
    apid_fits = omega arith;
    count_fits = omega arith;
    field_fits = omega arith;
  };
  octets = λ i. omega (arith, c.type_inv.field i);
}
