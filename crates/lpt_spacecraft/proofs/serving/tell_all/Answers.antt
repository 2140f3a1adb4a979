-- One thing after another.
use Rattle.std.proofs.Common.{[], refl}
use Rattle.lpt_spacecraft.proofs.FoldLemmas.{hears-none}
use Rattle.lpt_spacecraft.proofs.FlightLemmas.{tells-next}
use Rattle.lpt_spacecraft.proofs.serving.tell_all.Goals as goal

pub loop-one-init : goal.loop-one-init
loop-one-init g c =
    record { so_far = []; hears = hears-none (g.L.Listener.heard c.args.listener.now); are = refl }

pub loop-one-preserved : goal.loop-one-preserved
loop-one-preserved g c =
    tells-next (g.L.Listener.heard c.args.listener.now) (g.L.Listener.heard c.loop-one.listener)
    (g.L.Listener.heard c.tell.new.self) c.args.told.now c.args.told.now c.loop-one.one-index
    _ c.loop-one-test.true c.loop-one.invariant c.tell.ensures
