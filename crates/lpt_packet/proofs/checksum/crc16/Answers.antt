-- The checksum is what a register of ones becomes.
use Rattle.lpt_packet.specs.Checksums.{checksum}
use Rattle.lpt_packet.proofs.checksum.crc16.Goals as goal

pub returns : goal.returns
unfolding checksum
returns c = c.crc16_more.ensures
