-- By what the part makes of all.
use Rattle.std.proofs.Common.{◌∙◌, ap, sym, subst, Some, None}
use Rattle.std.specs.Prelude.{Option}
use Rattle.std.specs.Option.{option_map}
use Rattle.lpt_layout_each.specs.declared.turn.Turn as code
use Rattle.lpt_layout_join.specs.declared.came.CameAs.{CameAs}
use Rattle.lpt_layout_each.specs.Eaches.{more}
use Rattle.lpt_layout_each.specs.Helds.{IsTurnOfAll, ShowsSome}
use Rattle.lpt_layout_each.proofs.StepLemmas.{after_broken, after_gives, after_none, after_unfit, after_waits}
use Rattle.lpt_layout_each.proofs.held.HeldAs.go_by_all.Goals as goal

pub returns-in-Some-Gives : goal.returns-in-Some-Gives
returns-in-Some-Gives c = λ l a came q o again h all k t.
    after_gives again l a came q c.take.result c.in-Some-Gives.message c.behind.result o
    c.behind.ensures
    (subst (λ (s : Option CameAs). ShowsSome (option_map (λ d. more d q) a) s)
    (sym c.take.ensures.value) all)
    (subst (λ (all : Option code.Turn). IsTurnOfAll again a q all o)
    (c.in-Some-Gives.is ∙ ap Some c.in-Some-Gives.field-0-is) t)

pub returns-in-Some-Waits : goal.returns-in-Some-Waits
returns-in-Some-Waits c = λ l a came q o again h all k t.
    after_waits again l a came q c.args.self.now o h all k
    (subst (λ (all : Option code.Turn). IsTurnOfAll again a q all o)
    (c.in-Some-Waits.is ∙ ap Some c.in-Some-Waits.field-0-is) t)

pub returns-in-Some-Broken : goal.returns-in-Some-Broken
returns-in-Some-Broken c = λ l a came q o again h all k t.
    after_broken again l a came q c.args.self.now o h k
    (subst (λ (all : Option code.Turn). IsTurnOfAll again a q all o)
    (c.in-Some-Broken.is ∙ ap Some c.in-Some-Broken.field-0-is) t)

pub returns-in-Some-Unfit : goal.returns-in-Some-Unfit
returns-in-Some-Unfit c = λ l a came q o again h all k t.
    after_unfit again l a came q c.args.self.now _ o h k
    (subst (λ (all : Option code.Turn). IsTurnOfAll again a q all o)
    (c.in-Some-Unfit.is ∙ ap Some c.in-Some-Unfit.field-0-is) t)

pub returns-in-None : goal.returns-in-None
returns-in-None c = λ l a came q o again h all k t.
    after_none again l a came q c.args.self.now o h all k
    (subst (λ (all : Option code.Turn). IsTurnOfAll again a q all o) c.in-None.is t)
