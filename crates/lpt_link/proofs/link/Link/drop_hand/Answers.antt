-- An empty hand has no number, and what is held stays.
use Rattle.std.proofs.Common.{None}
use Rattle.lpt_link.specs.Links.{LinkData}
use Rattle.lpt_link.proofs.HandLemmas.{hand_sound}
use Rattle.lpt_link.proofs.link.Link.drop_hand.Goals as goal

pub invariant_of-self : goal.invariant_of-self
invariant_of-self c =
    let link = c.self.inside in
    let d : LinkData = record { packets = link.packets.items; hands = link.hands } in
    rw c.put.ensures (
      hand_sound d c.args.lane None c.self.invariant.0 tt,
      c.self.invariant.1,
    )
