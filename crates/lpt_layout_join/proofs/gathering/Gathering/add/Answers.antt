-- A part of the transaction.
use Rattle.std.proofs.Common.{◌≡◌, ◌∙◌, ap, sym, Bool, ◌||◌, is_some}
use Rattle.lpt_layout.specs.Parts.{piece}
use Rattle.lpt_layout_join.specs.Came.{Came, last_of}
use Rattle.lpt_layout_join.specs.CameInside.{Shows}
use Rattle.lpt_layout_join.specs.Orders.{is_in_order}
use Rattle.lpt_layout_join.proofs.GatherLemmas.{gives-part}
use Rattle.lpt_layout_join.proofs.gathering.Gathering.add.Goals as goal
use Rattle.lpt_layout_join.proofs.gathering.Gathering.add.Goals.{then-self, else-self}

pub returns : goal.returns
returns c = λ r n ps b h missing place some.
    let was = c.args.self.now in
    let q = piece c.args.part.now in
    let came = c.take.new.self in
    let order = c.order_with-order.result in
    let sure : (k : Came) → Shows k came
    → c.if-self.sure ≡ (was.sure || is_in_order (last_of k.parts) order) =
    λ k shows. elim c.if-self.branch [
      | then-self w ↦ w.sure-is ∙ w.if-self.true
          ∙ sym (ap (λ (t : Bool). t || is_in_order (last_of k.parts) order) w.if-self.true)
      | else-self w ↦ w.sure-is ∙ w.is_whole-sure.ensures
          ∙ ap (λ l. is_in_order l order) (w.last.ensures k shows)
          ∙ sym (ap (λ (t : Bool). t || is_in_order (last_of k.parts) order) w.if-self.false)
    ] in
    gives-part r n ps b was
    (record {
      came = came;
      order = order;
      sure = c.if-self.sure;
      numbers = c.add.new.self;
      against = c.first_of-self.result;
    })
    q c.is_some-is_against.result c.args.missing c.args.place h some missing
    c.in_ok-take.ensures.came
    (λ k shows. c.is_some-is_against.ensures ∙ ap is_some (c.against.ensures k shows))
    c.order_with-order.ensures sure c.in_ok-add.ensures.came c.in_ok-add.ensures.ended place
    c.first_of-self.ensures
