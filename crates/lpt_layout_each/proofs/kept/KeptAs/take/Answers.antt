use Rattle.std.proofs.Common.{subst, sym}
use Rattle.lpt_layout.specs.Parts.{piece}
use Rattle.lpt_layout_each.specs.declared.kept.Inside.{Inside}
use Rattle.lpt_layout_each.specs.Eaches.{step}
use Rattle.lpt_layout_each.specs.Helds.{Keeps}
use Rattle.lpt_layout_each.proofs.kept.KeptAs.take.Goals as goal

pub returns : goal.returns
returns c = λ k h.
    let s = step c.args.reading.now c.args.any c.args.missing k (piece c.args.part.now) in
    let steps = c.in_ok-news.ensures k (c.open-course.ensures k
    (subst (λ (x : Inside). Keeps k x) (sym c.replace-inside.ensures.value)
    (subst (λ (x : Inside). Keeps k x) (sym c.deref_mut.ensures.value) h))) in
    record { keeps = c.in_ok-self.ensures s.0 steps.follows; tells = steps.tells }
