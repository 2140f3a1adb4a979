-- Each event that is accepted makes the run one longer.
use Rattle.std.proofs.Common.{◌∙◌, sym, subst, refl, Option, Some}
use Rattle.lpt_events.specs.declared.event.Event.{Event}
use Rattle.lpt_world.specs.Worlds.{Shown, IsFaultOf}
use Rattle.lpt_world.proofs.RunLemmas.{run_on, run_all, got}
use Rattle.lpt_world.proofs.world.World.run.Goals as goal

pub loop-done-init : goal.loop-done-init
loop-done-init c = record { accepted = tt; entered = refl }

pub returns-in-Some-clause-accepted : goal.returns-in-Some-clause-accepted
returns-in-Some-clause-accepted c = c.loop-done.invariant.accepted

pub returns-in-Some-clause-entered : goal.returns-in-Some-clause-entered
returns-in-Some-clause-entered c = c.in-Some.ensures.unchanged ∙ c.loop-done.invariant.entered

pub returns-in-Some-clause-refused : goal.returns-in-Some-clause-refused
returns-in-Some-clause-refused c =
    subst (λ (o : Option Event). IsFaultOf c.step_copy.new.self 0 o c.in-Some.fault)
    (sym (got 0 c.index-events-done.result c.args.events.now c.loop-done.done c.loop-done-test.true c.index-events-done.is))
    (subst (λ (w : Shown). IsFaultOf w 0 (Some c.index-events-done.result) c.in-Some.fault) (sym c.in-Some.ensures.unchanged) c.in-Some.ensures.refused)

pub loop-done-preserved : goal.loop-done-preserved
loop-done-preserved c =
    run_on c.args.self.now c.loop-done.self c.step_copy.new.self c.args.events.now c.loop-done.done c.index-events-done.result
    c.loop-done-test.true c.index-events-done.is c.loop-done.invariant
    (c.in_default.ensures.accepted refl) (c.in_default.ensures.entered refl)

pub returns-clause-accepted : goal.returns-clause-accepted
returns-clause-accepted c =
    (run_all c.args.self.now c.loop-done.self c.args.events.now c.loop-done.done c.loop-done.auto.done-end c.loop-done-test.false c.loop-done.invariant).accepted

pub returns-clause-entered : goal.returns-clause-entered
returns-clause-entered c =
    (run_all c.args.self.now c.loop-done.self c.args.events.now c.loop-done.done c.loop-done.auto.done-end c.loop-done-test.false c.loop-done.invariant).entered
