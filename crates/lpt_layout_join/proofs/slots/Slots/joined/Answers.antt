-- A part that hasn't come leaves nothing joined.
use Rattle.std.proofs.Common.{◌≡◌, ◌∙◌, ap, sym, suc, ◌-◌, arith}
use Rattle.std.specs.Prelude.{None}
use Rattle.lpt_layout_join.specs.Slots.{at}
use Rattle.lpt_layout_join.proofs.SlotLemmas.{joined-none}
use Rattle.lpt_layout_join.proofs.slots.Slots.joined.Goals as goal

pub returns-in_default : goal.returns-in_default
returns-in_default c =
    let place : suc c.loop-place.place - 1 ≡ c.loop-place.place = omega arith in
    let none : at c.args.self.now c.loop-place.place ≡ None =
    c.part_at.ensures.none c.in_default.is in
    sym (joined-none (λ n. at c.args.self.now (n - 1)) c.loop-place.place c.args.total
    (ap (at c.args.self.now) place ∙ none) c.loop-place-test.true)
