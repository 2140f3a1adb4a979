-- It came so far by what was heard, and what went up follows from that.
use Rattle.std.proofs.Common.{◌≡◌, true}
use Rattle.lpt_ground.specs.Passes.{state_of}
use Rattle.lpt_ground.specs.CarryingLarge.{Went}
use Rattle.lpt_ground.specs.Uplinks.{way_of}
use Rattle.lpt_ground.proofs.carrying_large.carry_large.Given as goal

abbrev pub invariant-loop : goal.invariant-loop
invariant-loop g l = record {
  went : Went g.E.Ear.comes l.fn.uplink.large l.fn.pass.terms
      (way_of l.fn.uplink (state_of l.fn.pass)) (way_of l.uplink (state_of l.pass))
      (g.E.Ear.told l.fn.ear) (g.E.Ear.told l.ear)
      (g.K.Sink.contents l.fn.out) (g.K.Sink.contents l.out);
  kept : g.E.Ear.is_kept l.ear ≡ true;
  large : l.uplink.large ≡ l.fn.uplink.large;
  terms : l.pass.terms ≡ l.fn.pass.terms;
}
