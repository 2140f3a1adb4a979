-- The eight values are the parts of what the octets make.
use Rattle.std.proofs.Common.{sym, arith}
use Rattle.lpt_packet.proofs.Slices.{eight_sum}
use Rattle.lpt_packet.proofs.checksum.eight_in.Goals as goal

pub returns : goal.returns
returns c =
    rw (
      c.of_octet.ensures,
      c.of_octet-2.ensures,
      c.of_octet-3.ensures,
      c.of_octet-4.ensures,
      c.of_octet-5.ensures,
      c.of_octet-6.ensures,
      c.of_octet-7.ensures,
      c.of_octet-8.ensures,
    ) (sym (eight_sum c.args.register c.args.octets.now c.ranges.register.fits (omega arith)))
