-- One is another.
use Rattle.std.proofs.Common.{◌≡◌, ◌-◌, ◌∙◌, ap, sym, suc, arith}
use Rattle.lpt_layout_join.specs.Came.{is_other}
use Rattle.lpt_layout_join.specs.Slots.{at, end_in}
use Rattle.lpt_layout_join.proofs.SlotLemmas.{other-some}
use Rattle.lpt_layout_join.proofs.slots.Slots.none_other.Goals as goal

pub returns-then-is_other : goal.returns-then-is_other
returns-then-is_other c =
    let k = c.loop-place.place in
    let place : suc k - 1 ≡ k = omega arith in
    sym (other-some (λ n. at c.args.self.now (n - 1)) (λ n. at c.args.others.now (n - 1)) k
    (end_in c.args.self.now)
    (ap (λ i. is_other (at c.args.self.now i) (at c.args.others.now i)) place
    ∙ sym c.is_other.ensures ∙ c.if-is_other.true)
    (omega (arith, c.loop-place-test.true, c.end-place-end.ensures)))
