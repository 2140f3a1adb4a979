-- The hand gets the number of a packet of its lane's direction, and what is held stays.
use Rattle.std.proofs.Common.{◌≡◌, ◌∙◌, ap, Some, true}
use Rattle.lpt_link.specs.Links.{LinkData, LinkView, is_held_for}
use Rattle.lpt_events.specs.Lanes.{lane_direction}
use Rattle.lpt_link.proofs.HandLemmas.{hand_sound, taken_number}
use Rattle.lpt_link.proofs.link.Link.take.Goals as goal

pub invariant_of-self : goal.invariant_of-self
invariant_of-self c =
    let link = c.self.inside in
    let d : LinkData = record { packets = link.packets.items; hands = link.hands } in
    let lane = c.args.lane in
    let n = c.args.n in
    let goes = lane_direction lane in
    let held : is_held_for d goes n ≡ true =
    ap (λ (v : LinkView). is_held_for v.at goes n) c.self.view_is ∙ c.in_default.ensures.held in
    rw c.put.ensures (
      hand_sound d lane (Some n) c.self.invariant.0 (taken_number d goes n held),
      c.self.invariant.1,
    )
