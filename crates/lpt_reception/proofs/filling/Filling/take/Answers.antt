-- The reception with the part that was added.
use Rattle.std.proofs.Common.{◌∙◌, ap, sym, refl, ℕ}
use Rattle.lpt_reception.specs.Steps.{part_kept}
use Rattle.lpt_reception.specs.Received.{Received, is_whole}
use Rattle.lpt_reception.specs.Stored.{parts_stored}
use Rattle.lpt_reception.proofs.EndingLemmas.{received_with, received_new}
use Rattle.lpt_reception.proofs.filling.Filling.take.Goals as goal

pub returns-then-is_whole : goal.returns-then-is_whole
returns-then-is_whole c =
    let k = c.self.inside in
    let t = c.args.part.now in
    let r = c.args.self.now in
    let old = λ (p : ℕ). parts_stored p k.store in
    let new = λ (p : ℕ). parts_stored p c.add.new.self in
    let is = received_with r k.id k.p t.p t.number (part_kept t) old new c.self.view_is c.requires.p
    c.in-Ok.ensures.ok in
    let fresh =
    received_new r k.id k.p t.p t.number (part_kept t) old new c.self.view_is c.requires.p
    c.args.mode c.in-New.ensures in (
      (
        fresh,
        sym (ap (λ (s : Received). is_whole s.parts) is) ∙ sym c.is_whole.ensures ∙ c.if-is_whole.true,
        refl,
      ),
      is,
    )
