-- A packet that is put is counted once more.
use Rattle.std.proofs.Common.{◌∙◌, ap, arith, length, sym, subst, IfSome}
use Rattle.lpt_link.specs.Counts.{HasPlace}
use Rattle.lpt_link.specs.Links.{LinkData, LinkView, after_put}
use Rattle.lpt_link.proofs.CountLemmas.{put_counts}
use Rattle.lpt_link.proofs.HandLemmas.{put_sound}
use Rattle.lpt_link.proofs.IndexLemmas.{held_few, index_more}
use Rattle.lpt_link.proofs.link.Link.put_placed.Goals as goal

pub add-requires-clause-place : goal.add-requires-clause-place
add-requires-clause-place c =
    subst (λ (v : LinkView). IfSome c.args.tag (HasPlace v.places c.args.direction))
    (sym c.self.view_is) c.requires

pub add-requires-clause-room : goal.add-requires-clause-room
add-requires-clause-room c = λ name.
    let link = c.self.inside in
    let d : LinkData = record { packets = link.packets.items; hands = link.hands } in
    let goes = c.args.direction in
    omega (arith, c.len-number.ensures.small, c.self.invariant.1 goes name, held_few d goes name)

pub invariant_of-self : goal.invariant_of-self
invariant_of-self c =
    let link = c.self.inside in
    let d : LinkData = record { packets = link.packets.items; hands = link.hands } in
    let goes = c.args.direction in
    let tag = c.args.tag in
    let octets = c.args.octets in
    rw c.in-Ok.ensures.ok (
      put_sound d goes tag octets c.self.invariant.0,
      index_more goes tag c.self.inside.tags c.add.new.self d
          (after_put d goes tag octets) c.self.invariant.1 c.add.ensures.more
          (put_counts d goes tag octets),
    )

-- and its number is how many were put before
pub returns-in-Ok-clause-number : goal.returns-in-Ok-clause-number
returns-in-Ok-clause-number c =
    c.len-number.ensures.value
    ∙ ap (λ (v : LinkView). length v.at.packets) c.self.view_is

-- where it isn't put all is as before
pub invariant_of-self-in-Err : goal.invariant_of-self-in-Err
invariant_of-self-in-Err c = rw c.in-Err.ensures.err c.self.invariant
