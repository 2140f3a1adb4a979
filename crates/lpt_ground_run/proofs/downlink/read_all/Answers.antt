-- What comes is what was named.
use Rattle.lpt_ground_run.proofs.HandingLemmas.{packet-named}
use Rattle.lpt_ground_run.proofs.downlink.read_all.Goals as goal

pub hand_packets-requires-clause-may : goal.hand_packets-requires-clause-may
hand_packets-requires-clause-may g c o h =
    packet-named g.J.Downlink.octets g.J.Downlink.longest (g.S.Source.remaining c.args.source)
    c.args.cutting.longest o c.requires.named h
