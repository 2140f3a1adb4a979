-- Answer by answer, until the pass is at its end.
use Rattle.std.proofs.Common.{◌∙◌, ap, refl, sym}
use Rattle.lpt_ground.specs.declared.pass.Step.TheVariants.{Stop}
use Rattle.lpt_ground.specs.Passes.{next_step, state_of}
use Rattle.lpt_ground.proofs.CarryLemmas.{done-told, went-next, went-none}
use Rattle.lpt_ground.proofs.carrying.carry.Goals as goal

pub loop-init : goal.loop-init
loop-init g c = record {
  went = went-none g.E.Ear.comes c.args.pass.now.terms (state_of c.args.pass.now)
      (g.E.Ear.told c.args.ear.now) (g.E.Ear.told c.keep.new.self)
      (g.K.Sink.contents c.args.out.now) c.keep.ensures.told;
  kept = c.keep.ensures.kept c.if-not-keep.false;
  terms = refl;
}

pub loop-preserved : goal.loop-preserved
loop-preserved g c = record {
  went = went-next g.E.Ear.comes c.args.pass.now.terms c.loop.pass.terms (state_of c.args.pass.now)
      (state_of c.loop.pass) (state_of c.turn.new.pass) (g.E.Ear.told c.args.ear.now)
      (g.E.Ear.told c.loop.ear) (g.E.Ear.told c.turn.new.ear) (g.K.Sink.contents c.args.out.now)
      (g.K.Sink.contents c.loop.out) (g.K.Sink.contents c.turn.new.out)
      c.loop.invariant.terms c.loop.invariant.went c.in_ok-turn.ensures.ok;
  kept = c.in_ok-turn.ensures.kept;
  terms = c.turn.ensures.terms ∙ c.loop.invariant.terms;
}

pub returns-in-Stop-clause-done : goal.returns-in-Stop-clause-done
returns-in-Stop-clause-done g c is =
    let w = c.loop.invariant.went in
    record {
      answers = w.answers;
      told = w.told;
      comes = w.comes;
      all = done-told c.args.pass.now.terms (state_of c.args.pass.now) w.answers
          (ap next_step (sym w.came) ∙ sym c.next-step.ensures.step ∙ c.in-Stop.is ∙ ap Stop is);
    }
