-- The octets of the other packets are where they were, and the new packet comes last.
use Rattle.std.proofs.Common.{◌∙◌, ap, ℕ, Ok, Err, List, [], ◌∷◌, ◌++◌}
use Rattle.std.specs.Prelude.{Result, OnErr}
use Rattle.std.proofs.lemmas.List.Elements.{All-push}
use Rattle.lpt_link.specs.declared.packet.Head.{Head}
use Rattle.lpt_link.specs.declared.packet.LinkPacket.{LinkPacket}
use Rattle.lpt_link.specs.declared.packets.Kept.{Kept}
use Rattle.lpt_link.specs.Packets.{PacketsView}
use Rattle.lpt_link.specs.PacketsInside.{packets_of, IsThere}
use Rattle.lpt_link.proofs.KeptLemmas.{all_keep, packets_keep, packets_push}
use Rattle.lpt_link.proofs.packets.Packets.push.Goals as goal

-- a fact holds where there is an error
on_err : {T E P : Type 0} (r : Result T E) → P → OnErr r P
on_err (Ok x) p = tt
on_err (Err x) p = p

pub returns-in_err-place-clause-err : goal.returns-in_err-place-clause-err
returns-in_err-place-clause-err c =
    let in_it = c.self.inside in
    let now = c.put_octets.new.all.items in
    let now_apart = c.put_octets.new.apart.items in
    let same = ap (packets_of now now_apart) c.reserve.ensures.items
    ∙ packets_keep in_it.octets.items in_it.apart.items now now_apart c.put_octets.ensures.keeps
    in_it.kept.items c.self.invariant
    ∙ ap (λ (v : PacketsView). v.items) c.self.view_is in
    on_err c.from_residual.result same

pub invariant_of-self-2 : goal.invariant_of-self-2
invariant_of-self-2 c =
    let in_it = c.self.inside in
    let now = c.put_octets.new.all.items in
    let now_apart = c.put_octets.new.apart.items in
    let head : Head = record {
      direction = c.args.packet.direction;
      held = c.args.packet.held;
      tag = c.args.packet.tag;
    } in
    let put : Kept = record { head = head; place = c.in_ok-place.place } in
    rw (c.push_reserved.ensures.items, c.reserve.ensures.items)
    (All-push (λ (k : Kept). IsThere now now_apart k.place) in_it.kept.items put
    (all_keep in_it.octets.items in_it.apart.items now now_apart c.put_octets.ensures.keeps
    in_it.kept.items c.self.invariant)
    c.in_ok-place.ensures.there)

pub returns-clause-ok : goal.returns-clause-ok
returns-clause-ok c =
    let in_it = c.self.inside in
    let p : LinkPacket = c.args.packet in
    let now = c.put_octets.new.all.items in
    let now_apart = c.put_octets.new.apart.items in
    let head : Head = record { direction = p.direction; held = p.held; tag = p.tag } in
    let put : Kept = record { head = head; place = c.in_ok-place.place } in
    let shown : List ℕ → LinkPacket = λ o. record {
      direction = p.direction;
      tag = p.tag;
      octets = o;
      held = p.held;
    } in
    ap (packets_of now now_apart) (
    c.push_reserved.ensures.items
    ∙ ap (λ (ks : List Kept). ks ++ put ∷ []) c.reserve.ensures.items
    )
    ∙ packets_push in_it.octets.items in_it.apart.items now now_apart c.put_octets.ensures.keeps
    in_it.kept.items put p c.self.invariant (ap shown c.in_ok-place.ensures.reads)
    ∙ ap (λ (v : PacketsView). v.items ++ p ∷ []) c.self.view_is
