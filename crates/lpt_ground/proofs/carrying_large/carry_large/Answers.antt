-- Answer by answer, until it is at its end.
use Rattle.std.proofs.Common.{◌∙◌, ap, refl, sym}
use Rattle.lpt_ground.specs.declared.pass.Step.TheVariants.{Stop}
use Rattle.lpt_ground.specs.Passes.{state_of}
use Rattle.lpt_ground.specs.declared.large.Large.{Large}
use Rattle.lpt_ground.specs.Uplinks.{next_way, way_of}
use Rattle.lpt_ground.proofs.UplinkLemmas.{done-is-told, went-next, went-none}
use Rattle.lpt_ground.proofs.carrying_large.carry_large.Goals as goal

pub loop-init : goal.loop-init
loop-init g c = record {
  went = went-none g.E.Ear.comes c.args.uplink.now.large c.args.pass.now.terms
      (way_of c.args.uplink.now (state_of c.args.pass.now))
      (g.E.Ear.told c.args.ear.now) (g.E.Ear.told c.keep.new.self)
      (g.K.Sink.contents c.args.out.now) c.keep.ensures.told;
  kept = c.keep.ensures.kept c.if-not-keep.false;
  large = refl;
  terms = refl;
}

pub loop-preserved : goal.loop-preserved
loop-preserved g c = record {
  went = went-next g.E.Ear.comes c.args.uplink.now.large c.loop.uplink.large c.args.pass.now.terms
      c.loop.pass.terms (way_of c.args.uplink.now (state_of c.args.pass.now))
      (way_of c.loop.uplink (state_of c.loop.pass))
      (way_of c.turn.new.uplink (state_of c.turn.new.pass)) (g.E.Ear.told c.args.ear.now)
      (g.E.Ear.told c.loop.ear) (g.E.Ear.told c.turn.new.ear) (g.K.Sink.contents c.args.out.now)
      (g.K.Sink.contents c.loop.out) (g.K.Sink.contents c.turn.new.out)
      c.loop.invariant.large c.loop.invariant.terms c.loop.invariant.went
      c.in_ok-turn.ensures.ok;
  kept = c.in_ok-turn.ensures.kept;
  large = c.turn.ensures.large ∙ c.loop.invariant.large;
  terms = c.turn.ensures.terms ∙ c.loop.invariant.terms;
}

pub returns-in-Stop-clause-done : goal.returns-in-Stop-clause-done
returns-in-Stop-clause-done g c is =
    let l = c.args.uplink.now.large in
    let w = c.loop.invariant.went in
    record {
      answers = w.answers;
      told = w.told;
      comes = w.comes;
      all = done-is-told l c.args.pass.now.terms
          (way_of c.args.uplink.now (state_of c.args.pass.now)) w.answers
          (ap (next_way l) (sym w.came)
          ∙ ap (λ (k : Large). next_way k (way_of c.loop.uplink (state_of c.loop.pass)))
          (sym c.loop.invariant.large)
          ∙ sym c.next-step.ensures.step ∙ c.in-Stop.is ∙ ap Stop is);
    }
