-- The message of a name, and the messages without it.
use Rattle.std.proofs.Common.{◌≡◌, ◌∙◌, ap, sym, is_some, None}
use Rattle.std.proofs.lemmas.Bool.{true≢false}
use Rattle.std.specs.FinMap as map
use Rattle.lpt_node.specs.NodeInside.{OpenMessages}
use Rattle.lpt_node.specs.Nodes.{Messages}
use Rattle.lpt_packet.proofs.NamedLemmas.{get-by_name, by_name-remove}
use Rattle.lpt_node.proofs.OutgoingLemmas.{IsOutgoing-remove}
use Rattle.lpt_node.proofs.outgoing.Outgoing.take.Goals as goal

pub invariant_of-self : goal.invariant_of-self
invariant_of-self c =
    IsOutgoing-remove c.self.inside.messages.entries c.remove.new.self.entries c.args.name
    c.self.inside.p c.self.invariant c.remove.result c.remove.ensures.value
    c.remove.ensures.len c.remove.ensures.updates.0

pub returns-clause-rest : goal.returns-clause-rest
returns-clause-rest c =
    ap (λ (m : Messages). record { p = c.self.inside.p; messages = m })
    (by_name-remove c.self.inside.messages.entries c.remove.new.self.entries c.args.name
    c.remove.ensures.updates.0)
    ∙ ap (λ (o : OpenMessages). record o { messages = map.remove o.messages c.args.name })
    c.self.view_is

pub returns-clause-message : goal.returns-clause-message
returns-clause-message c =
    ap (λ (o : OpenMessages). map.get o.messages c.args.name) (sym c.self.view_is)
    ∙ get-by_name c.self.inside.messages.entries c.args.name
    ∙ sym c.in-Some.ensures.value

pub unreachable-requires : goal.unreachable-requires
unreachable-requires c =
    let absent : map.get c.args.self.now.messages c.args.name ≡ None =
    ap (λ (o : OpenMessages). map.get o.messages c.args.name) (sym c.self.view_is)
    ∙ get-by_name c.self.inside.messages.entries c.args.name
    ∙ sym c.in-None.ensures.value in
    true≢false (sym c.requires ∙ ap is_some absent)
