-- The pass came so far by what was heard, and wrote what follows from that.
use Rattle.std.proofs.Common.{◌≡◌, true}
use Rattle.lpt_ground.specs.Carrying.{Went}
use Rattle.lpt_ground.specs.Passes.{state_of}
use Rattle.lpt_ground.proofs.carrying.carry.Given as goal

abbrev pub invariant-loop : goal.invariant-loop
invariant-loop g l = record {
  went : Went g.E.Ear.comes l.fn.pass.terms (state_of l.fn.pass) (state_of l.pass)
      (g.E.Ear.told l.fn.ear) (g.E.Ear.told l.ear) (g.K.Sink.contents l.fn.out)
      (g.K.Sink.contents l.out);
  kept : g.E.Ear.is_kept l.ear ≡ true;
  terms : l.pass.terms ≡ l.fn.pass.terms;
}
