-- What came of the name is told, where it isn't nothing.
use Rattle.std.proofs.Common.{◌∙◌, sym, subst, List}
use Rattle.lpt_layout_join.specs.declared.came.CameAs.{CameAs}
use Rattle.lpt_layout_each.specs.News.{Event, Hears, HearsPart}
use Rattle.lpt_layout_join.specs.CameInside.{Shows}
use Rattle.lpt_layout_each.proofs.StepLemmas.{dropped-shown}
use Rattle.lpt_layout_each.proofs.TellLemmas.{left-told}
use Rattle.lpt_stream.proofs.EndLemmas.{any-err}
use Rattle.lpt_layout_each.proofs.leaving.tell_left.Goals as goal

pub returns-clause-told : goal.returns-clause-told
returns-clause-told g c = λ h k.
    subst (λ (es : List Event). Hears (g.T.TakerAs.heard c.args.taker.now)
    (g.T.TakerAs.heard c.take.new.self) es)
    (left-told c.args.name _ h
    (dropped-shown h.held.new c.into_new.result
    (subst (λ (s : CameAs). Shows h.held.new s) (sym c.into_new.ensures) k.new))
    (sym (c.is_empty.ensures h k) ∙ c.if-is_empty.false))
    c.in_ok-take.ensures.heard

pub returns-in_err-take-clause-left : goal.returns-in_err-take-clause-left
returns-in_err-take-clause-left g c = λ h k.
    any-err _ c.from_residual.result
    (subst (λ (es : List Event). HearsPart (g.T.TakerAs.heard c.args.taker.now)
    (g.T.TakerAs.heard c.take.new.self) es)
    (left-told c.args.name _ h
    (dropped-shown h.held.new c.into_new.result
    (subst (λ (s : CameAs). Shows h.held.new s) (sym c.into_new.ensures) k.new))
    (sym (c.is_empty.ensures h k) ∙ c.if-is_empty.false))
    c.in_err-take.ensures.left)
