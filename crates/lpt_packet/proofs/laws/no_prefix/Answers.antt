use Rattle.lpt_packet.proofs.Readings.{no_prefix}
use Rattle.lpt_packet.proofs.laws.no_prefix.Goals as goal

pub returns : goal.returns
returns c = no_prefix
