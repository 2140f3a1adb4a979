-- The packet's own laws say it.
use Rattle.lpt_packet.proofs.Bursts.{burst_shows_in_packet}
use Rattle.lpt_packet.proofs.Readings.{tests_passed, true_eq}
use Rattle.lpt_layout.specs.Packets.{verdict_as}
use Rattle.lpt_layout.proofs.BareLemmas.{is_packet}
use Rattle.lpt_layout.proofs.laws.checksums_show.Goals as goal

pub returns-clause-checksum : goal.returns-clause-checksum
unfolding verdict_as
returns-clause-checksum c b f h = true_eq _ _ (tests_passed b f h).sealed

pub returns-clause-burst : goal.returns-clause-burst
returns-clause-burst c x y f g differ one other =
    burst_shows_in_packet x y f g differ (is_packet x f one) (is_packet y g other)
