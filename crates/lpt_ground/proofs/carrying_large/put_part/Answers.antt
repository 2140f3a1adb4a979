-- Nothing had come, and the part was put.
use Rattle.std.proofs.Common.{◌∙◌, ap, sym, subst}
use Rattle.std.specs.Io.KnownBytes.{Appends}
use Rattle.lpt_ground.specs.declared.pass.Step.{Step}
use Rattle.lpt_ground.specs.Carrying.{Nothing}
use Rattle.lpt_ground.specs.Passes.{state_of}
use Rattle.lpt_ground.specs.CarryingLarge.{after_step, written_by}
use Rattle.lpt_ground.specs.Uplinks.{way_of}
use Rattle.lpt_ground.proofs.carrying_large.put_part.Goals as goal

pub returns-in_ok-write_out-in-None-clause-ok : goal.returns-in_ok-write_out-in-None-clause-ok
returns-in_ok-write_out-in-None-clause-ok g c =
    let l = c.args.uplink.now.large in
    let w = way_of c.args.uplink.now (state_of c.args.pass.now) in
    record {
      answer = Nothing;
      told = c.in-None.ensures.told;
      comes = tt;
      came = c.part_sent.ensures.way (state_of c.args.pass.now)
          ∙ ap (λ (x : Step). after_step w x) (sym c.requires.next);
      written =
          subst (Appends (g.K.Sink.contents c.args.out.now) (g.K.Sink.contents c.write_out.new.out))
          (c.as_slice.ensures.same ∙ c.in_ok-packet-in-None.ensures
          ∙ ap (written_by l w) (sym c.requires.next)) c.in_ok-write_out-in-None.ensures.ok;
    }
