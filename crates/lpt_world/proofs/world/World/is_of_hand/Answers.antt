-- What the system has in a lane's hand is what the journal says.
use Rattle.std.proofs.Common.{◌↔◌, subst, IsTrue, ℕ, List, Option}
use Rattle.lpt_system.specs.Outside.{IsReadOf}
use Rattle.lpt_world.specs.Outside.{IsOfHand}
use Rattle.lpt_world.specs.Worlds.{Shown}
use Rattle.lpt_world.proofs.OutsideLemmas.{octets_shown}
use Rattle.lpt_world.proofs.world.World.is_of_hand.Goals as goal

pub returns : goal.returns
returns c =
    let e = c.self.inside.system in
    subst (λ (w : Shown). IsTrue c.is_read_of.result ↔ IsOfHand w c.args.lane c.args.parsed.now) c.self.view_is
    (subst (λ (o : Option (List ℕ)). IsTrue c.is_read_of.result ↔ IsReadOf e.config o c.args.lane c.args.parsed.now)
    (octets_shown e c.self.inside.first c.self.inside.journal.items c.args.lane c.self.invariant) c.is_read_of.ensures)
