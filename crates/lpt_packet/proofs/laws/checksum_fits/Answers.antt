use Rattle.lpt_packet.proofs.Registers.{checksum-fits}
use Rattle.lpt_packet.proofs.laws.checksum_fits.Goals as goal

pub returns : goal.returns
returns c = checksum-fits
