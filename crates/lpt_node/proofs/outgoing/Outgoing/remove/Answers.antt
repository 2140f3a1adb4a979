-- The messages without that of a name.
use Rattle.std.proofs.Common.{ap, ◌∙◌}
use Rattle.std.specs.FinMap as map
use Rattle.lpt_node.specs.NodeInside.{OpenMessages}
use Rattle.lpt_node.specs.Nodes.{Messages}
use Rattle.lpt_packet.proofs.NamedLemmas.{by_name-remove}
use Rattle.lpt_node.proofs.OutgoingLemmas.{IsOutgoing-remove}
use Rattle.lpt_node.proofs.outgoing.Outgoing.remove.Goals as goal

pub invariant_of-self : goal.invariant_of-self
invariant_of-self c =
    IsOutgoing-remove c.self.inside.messages.entries c.remove.new.self.entries c.args.name
    c.self.inside.p c.self.invariant c.remove.result c.remove.ensures.value
    c.remove.ensures.len c.remove.ensures.updates.0

pub returns : goal.returns
returns c =
    ap (λ (m : Messages). record { p = c.self.inside.p; messages = m })
    (by_name-remove c.self.inside.messages.entries c.remove.new.self.entries c.args.name
    c.remove.ensures.updates.0)
    ∙ ap (λ (o : OpenMessages). record o { messages = map.remove o.messages c.args.name })
    c.self.view_is
