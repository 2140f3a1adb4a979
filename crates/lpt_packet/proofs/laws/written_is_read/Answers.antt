use Rattle.lpt_packet.proofs.Readings.{written_again}
use Rattle.lpt_packet.proofs.laws.written_is_read.Goals as goal

pub returns : goal.returns
returns c = written_again
