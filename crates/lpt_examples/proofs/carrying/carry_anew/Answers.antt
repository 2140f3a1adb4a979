use Rattle.lpt_examples.proofs.CarryLemmas.{anew}
use Rattle.lpt_examples.proofs.carrying.carry_anew.Goals as goal

pub carry-requires : goal.carry-requires
carry-requires g c = record {
  stands =
      anew c.args.config.now c.in-Ok.ground c.in-Ok-new.craft
      (g.N.Network.may_come c.args.network.now) c.requires.config c.in-Ok.ensures
      c.in-Ok-new.ensures c.requires.empty;
}
