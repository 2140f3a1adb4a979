-- The upper octet of the register is added to the octet, and the lower one moves up.
use Rattle.std.proofs.Common.{◌∙◌, ◌*◌, ◌%◌, ap, sym}
use Rattle.std.specs.Int.Bits.{bit_xor}
use Rattle.lpt_packet.proofs.Lookups.{octet_sum}
use Rattle.lpt_stream.proofs.register.octet_in.Goals as goal

pub returns : goal.returns
returns c =
    ap (bit_xor (c.args.register * 256 % 65536)) c.of_octet.ensures
    ∙ sym (octet_sum c.args.register c.args.octet c.ranges.register.fits)
