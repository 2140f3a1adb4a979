-- By what the part makes of those that came in their order.
use Rattle.std.proofs.Common.{◌∙◌, ap, sym, subst, Option}
use Rattle.std.specs.Prelude.{IfOk}
use Rattle.lpt_layout.specs.Parts.{piece}
use Rattle.lpt_layout_join.specs.Writes.{unfit}
use Rattle.lpt_layout_join.specs.CameInside.{Shows}
use Rattle.lpt_layout_each.specs.declared.run.RunAs.{RunAs}
use Rattle.lpt_layout_each.specs.declared.run.RunTurnAs.{RunTurnAs}
use Rattle.lpt_layout_each.specs.Eaches.{Course, no_run, run_turn}
use Rattle.lpt_layout_each.specs.Helds.{IsRun, IsRunTurn, Steps}
use Rattle.lpt_layout_each.specs.News.{News}
use Rattle.lpt_layout_each.proofs.AloneLemmas.{follows-apart, kept-apart}
use Rattle.lpt_layout_each.proofs.StepLemmas.{step-ends, step-goes_on, step-unfit}
use Rattle.lpt_layout_each.proofs.course.CourseAs.take_apart.Goals as goal

-- it goes on
pub returns-in-Goes : goal.returns-in-Goes
returns-in-Goes c = λ k h.
    let r = c.args.reading.now in
    let q = piece c.args.part.now in
    let apart = kept-apart k c.args.self.now c.requires.apart h in
    let w = subst (λ (u : RunTurnAs). IsRunTurn c.take.new.self u (run_turn k.run c.args.missing q))
    c.in-Goes.is
    (c.in_ok-take.ensures k.run apart.1) in
    subst
    (λ (s : Course × Option News). IfOk c.go_on.result (λ news. Steps (c.go_on.new.self, news) s))
    (step-goes_on r c.args.any c.args.missing k q w.0 w.2)
    (c.go_on.ensures (record k { run = w.0 })
    (follows-apart (record k { run = w.0 }) _ c.requires.apart apart.0 w.1 h.stale h.gave))

-- a message is whole, and may be given out
pub returns-in-None : goal.returns-in-None
returns-in-None c = λ k h.
    let r = c.args.reading.now in
    let q = piece c.args.part.now in
    let apart = kept-apart k c.args.self.now c.requires.apart h in
    let w = subst (λ (u : RunTurnAs). IsRunTurn c.take.new.self u (run_turn k.run c.args.missing q))
    c.in-Ends.is
    (c.in_ok-take.ensures k.run apart.1) in
    subst
    (λ (s : Course × Option News). IfOk c.end_by.result (λ news. Steps (c.end_by.new.self, news) s))
    (step-ends r c.args.any c.args.missing k q w.0 c.in-Ends.message c.in-Ends.sure w.2
    (sym (c.in-None.ensures ∙ ap (unfit r c.args.any c.in-Ends.sure) c.as_slice.ensures.same)))
    (c.end_by.ensures (record k { run = no_run }) w.0
    (follows-apart (record k { run = no_run }) _ c.requires.apart apart.0
    (subst (λ (g : RunAs). IsRun no_run g) (sym c.replace-run.ensures.after) c.none.ensures)
    h.stale h.gave)
    (subst (λ (g : RunAs). Shows w.0 g.came) (sym c.replace-run.ensures.value) w.1))

-- or not
pub returns-in-Some : goal.returns-in-Some
returns-in-Some c = λ k h.
    let r = c.args.reading.now in
    let q = piece c.args.part.now in
    let apart = kept-apart k c.args.self.now c.requires.apart h in
    let w = subst (λ (u : RunTurnAs). IsRunTurn c.take.new.self u (run_turn k.run c.args.missing q))
    c.in-Ends.is
    (c.in_ok-take.ensures k.run apart.1) in
    subst (λ (s : Course × Option News). IfOk c.go_on-in-Some.result
    (λ news. Steps (c.go_on-in-Some.new.self, news) s))
    (step-unfit r c.args.any c.args.missing k q w.0 c.in-Ends.message c.in-Ends.sure _ w.2
    (sym (c.in-Some.ensures ∙ ap (unfit r c.args.any c.in-Ends.sure) c.as_slice.ensures.same)))
    (c.go_on-in-Some.ensures (record k { run = no_run })
    (follows-apart (record k { run = no_run }) _ c.requires.apart apart.0
    (subst (λ (g : RunAs). IsRun no_run g) (sym c.replace-run.ensures.after) c.none.ensures)
    h.stale h.gave))
