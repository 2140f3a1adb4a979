-- The configuration of the system is the one that is shown.
use Rattle.std.proofs.Common.{ap}
use Rattle.lpt_world.specs.Worlds.{Shown}
use Rattle.lpt_world.proofs.world.World.config.Goals as goal

pub returns-clause-shown : goal.returns-clause-shown
returns-clause-shown c = ap (λ (w : Shown). w.config) c.self.view_is
