-- A burst shows in the checksum, and a packet's checksum is 0.
use Rattle.lpt_packet.proofs.Bursts.{burst_shows, burst_shows_in_packet}
use Rattle.lpt_packet.proofs.laws.bursts_show.Goals as goal

pub returns : goal.returns
returns c = record { checksum = burst_shows; packet = burst_shows_in_packet }
