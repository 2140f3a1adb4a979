-- What is counted tells whether a packet is held.
use Rattle.std.proofs.Common.{◌∙◌, ap, sym, nat_lt}
use Rattle.lpt_link.specs.Links.{LinkData, LinkView, any_held}
use Rattle.lpt_link.proofs.IndexLemmas.{held_counted}
use Rattle.lpt_link.proofs.link.Link.any_held.Goals as goal

pub returns : goal.returns
returns c =
    let link = c.self.inside in
    let d : LinkData = record { packets = link.packets.items; hands = link.hands } in
    ap (nat_lt 0) (c.of.ensures ∙ c.self.invariant.1 c.args.direction c.args.name)
    ∙ sym (held_counted d c.args.direction c.args.name)
    ∙ ap (λ (v : LinkView). any_held v.at c.args.direction c.args.name) c.self.view_is
