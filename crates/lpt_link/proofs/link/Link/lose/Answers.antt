-- The packet is held no more, and is counted once less.
use Rattle.std.proofs.Common.{◌∙◌, ap, sym, List}
use Rattle.lpt_link.specs.declared.packet.Head.{Head}
use Rattle.lpt_link.specs.declared.packet.LinkPacket.{LinkPacket}
use Rattle.lpt_link.specs.Links.{LinkData, LinkView, after_lose}
use Rattle.lpt_link.proofs.HandLemmas.{lose_sound}
use Rattle.lpt_link.proofs.IndexLemmas.{index_less, index_room}
use Rattle.lpt_link.proofs.KeptLemmas.{head_moved, head_within}
use Rattle.lpt_link.proofs.link.Link.lose.Goals as goal

pub remove-requires : goal.remove-requires
remove-requires c = λ name.
    let link = c.self.inside in
    let d : LinkData = record { packets = link.packets.items; hands = link.hands } in
    let h : Head = c.in-Some.head in
    let read = sym c.in-Some.is ∙ c.head.ensures in
    index_room link.tags d (after_lose d c.args.n) h.direction h.tag name
    c.self.invariant.1
    (head_moved d c.args.n h read c.if-head.true)

pub lose-requires : goal.lose-requires
lose-requires c =
    let read = sym c.in-Some.is ∙ c.head.ensures in
    head_within c.self.inside.packets.items c.args.n c.in-Some.head read

pub invariant_of-self : goal.invariant_of-self
invariant_of-self c =
    let link = c.self.inside in
    let d : LinkData = record { packets = link.packets.items; hands = link.hands } in
    let h : Head = c.in-Some.head in
    let read = sym c.in-Some.is ∙ c.head.ensures in
    rw c.lose.ensures.items (
      lose_sound d c.args.n c.self.invariant.0,
      index_less h.direction h.tag link.tags c.remove.new.self d (after_lose d c.args.n)
          c.self.invariant.1 c.remove.ensures
          (head_moved d c.args.n h read c.if-head.true),
    )

pub returns-in-Some-clause-ok : goal.returns-in-Some-clause-ok
returns-in-Some-clause-ok c =
    let link = c.self.inside in
    let with : List LinkPacket → LinkData = λ ps. record { packets = ps; hands = link.hands } in
    ap with c.lose.ensures.items
    ∙ ap (λ (v : LinkView). after_lose v.at c.args.n) c.self.view_is
