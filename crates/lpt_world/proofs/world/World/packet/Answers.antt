-- The octets of a packet are what the journal says.
use Rattle.std.proofs.Common.{◌∙◌, ap}
use Rattle.std.specs.Option.{option_map}
use Rattle.std.specs.Prelude.{slice_get}
use Rattle.lpt_journal.specs.Link.{sent}
use Rattle.lpt_world.specs.Worlds.{Shown, history}
use Rattle.lpt_world.proofs.WorldLemmas.{packet_shown}
use Rattle.lpt_world.proofs.world.World.packet.Goals as goal

pub returns : goal.returns
returns c =
    c.packet.ensures.value
    ∙ packet_shown c.self.inside.system c.self.inside.first c.self.inside.journal.items c.args.n c.self.invariant
    ∙ ap (λ (w : Shown). option_map (λ p. p.octets) (slice_get (sent (history w)) c.args.n)) c.self.view_is
