-- What the table adds is what the upper octet and this one make together.
use Rattle.std.proofs.Common.{sym}
use Rattle.lpt_packet.specs.Checksums.{octets_in}
use Rattle.lpt_packet.proofs.Lookups.{octet_sum}
use Rattle.lpt_packet.proofs.checksum.octet_in.Goals as goal

pub returns : goal.returns
unfolding octets_in
returns c =
    rw c.of_octet.ensures (sym (octet_sum c.args.register c.args.octet c.ranges.register.fits))
