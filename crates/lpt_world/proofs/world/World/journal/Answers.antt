-- What a world shows holds.
use Rattle.std.proofs.Common.{subst}
use Rattle.lpt_world.specs.Worlds.{Shown, Promised}
use Rattle.lpt_world.proofs.ToldLemmas.{shown_promised}
use Rattle.lpt_world.proofs.world.World.journal.Goals as goal

pub returns-clause-promised : goal.returns-clause-promised
returns-clause-promised c =
    subst (λ (w : Shown). Promised w) c.self.view_is
    (shown_promised c.self.inside.system c.self.inside.first c.self.inside.journal.items c.self.invariant)
