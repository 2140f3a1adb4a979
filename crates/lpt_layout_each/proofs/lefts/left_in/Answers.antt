-- What came of the name is left, where it isn't nothing.
use Rattle.std.proofs.Common.{◌∙◌, sym, subst}
use Rattle.lpt_layout_join.specs.declared.came.CameAs.{CameAs}
use Rattle.lpt_layout_join.specs.CameInside.{Shows}
use Rattle.lpt_layout_each.proofs.LeftLemmas.{left-none}
use Rattle.lpt_layout_each.proofs.StepLemmas.{dropped-shown}
use Rattle.lpt_layout_each.proofs.TellLemmas.{left-told}
use Rattle.lpt_layout_each.proofs.lefts.left_in.Goals as goal

pub returns-then-is_empty : goal.returns-then-is_empty
returns-then-is_empty c = λ h k.
    sym (left-none c.args.name h (sym (c.is_empty.ensures h k) ∙ c.if-is_empty.true))

pub returns : goal.returns
returns c = λ h k.
    left-told c.args.name _ h
    (dropped-shown h.held.new c.into_new.result
    (subst (λ (s : CameAs). Shows h.held.new s) (sym c.into_new.ensures) k.new))
    (sym (c.is_empty.ensures h k) ∙ c.if-is_empty.false)
