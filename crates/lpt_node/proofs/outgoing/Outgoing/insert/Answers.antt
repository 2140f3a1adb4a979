-- The messages with one of a new name.
use Rattle.std.proofs.Common.{◌≡◌, ℕ, length, None, sym, ap, subst, ◌∙◌}
use Rattle.std.specs.FinMap as map
use Rattle.lpt_node.specs.NodeInside.{OpenMessages}
use Rattle.lpt_node.specs.Nodes.{Messages, MessageFits}
use Rattle.lpt_node.specs.OutgoingInside.{messages_of}
use Rattle.lpt_packet.proofs.NamedLemmas.{get-by_name, by_name-insert}
use Rattle.lpt_node.proofs.OutgoingLemmas.{IsOutgoing-insert}
use Rattle.lpt_node.proofs.outgoing.Outgoing.insert.Goals as goal

pub invariant_of-self : goal.invariant_of-self
invariant_of-self c =
    let es = c.self.inside.messages.entries in
    let absent : map.get (messages_of es) c.args.name ≡ None =
    ap (λ (o : OpenMessages). map.get o.messages c.args.name) c.self.view_is ∙ c.requires.absent
    in
    IsOutgoing-insert es c.insert.new.self.entries c.args.name c.self.inside.p c.self.invariant
    c.args.message c.in-Ok.field-0
    (subst (λ (p : ℕ). MessageFits p (length c.args.message))
    (ap (λ (o : OpenMessages). o.p) (sym c.self.view_is)) c.requires.fits)
    (c.in-Ok.ensures.old ∙ sym (get-by_name es c.args.name) ∙ absent)
    absent c.in-Ok.ensures.len c.in-Ok.ensures.updates.0

pub returns-in-Ok-clause-ok : goal.returns-in-Ok-clause-ok
returns-in-Ok-clause-ok c =
    ap (λ (m : Messages). record { p = c.self.inside.p; messages = m })
    (by_name-insert c.self.inside.messages.entries c.insert.new.self.entries c.args.name
    c.args.message c.in-Ok.ensures.updates.0)
    ∙ ap (λ (o : OpenMessages).
    record o { messages = map.insert o.messages c.args.name c.args.message }) c.self.view_is
