-- Of a name of which nothing came nothing is left.
use Rattle.std.proofs.Common.{◌≡◌, ◌∙◌, ap, sym, subst}
use Rattle.std.specs.Prelude.{Option}
use Rattle.std.specs.Option.{option_copied}
use Rattle.lpt_layout_each.specs.declared.kept.KeptAs.{KeptAs}
use Rattle.lpt_layout_each.specs.Eaches.{Course, course_held, nothing}
use Rattle.lpt_layout_each.specs.Helds.{IsHeld}
use Rattle.lpt_layout_each.specs.Streams.{waiting}
use Rattle.lpt_layout_each.proofs.HeldsLemmas.{waiting-none}
use Rattle.lpt_layout_each.proofs.helds.HeldsAs.waiting.Goals as goal

pub returns-in-None : goal.returns-in-None
returns-in-None c = λ r any bs h.
    let n = c.args.name in
    let is : course_held r any n bs ≡ nothing =
    subst (λ (o : Option KeptAs). IsHeld (course_held r any n bs) o)
    (sym c.get.ensures.value ∙ ap option_copied c.in-None.is) (h.each n) in
    sym waiting-none ∙ ap (λ (k : Course). waiting k.held.new) (sym is)

pub returns-in-Some : goal.returns-in-Some
returns-in-Some c = λ r any bs h.
    let n = c.args.name in
    c.waiting.ensures (course_held r any n bs)
    (subst (λ (o : Option KeptAs). IsHeld (course_held r any n bs) o)
    (sym c.get.ensures.value ∙ ap option_copied c.in-Some.is) (h.each n))
