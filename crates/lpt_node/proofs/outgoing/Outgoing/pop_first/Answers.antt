-- The messages without the one of the least name.
use Rattle.std.proofs.Common.{ℕ, ◌+◌, Some, Option, List, is_some, ap, sym, ◌∙◌}
use Rattle.std.specs.FinMap as map
use Rattle.lpt_node.specs.NodeInside.{OpenMessages}
use Rattle.lpt_node.specs.Nodes.{Messages}
use Rattle.lpt_packet.proofs.NamedLemmas.{get-by_name, by_name-remove}
use Rattle.lpt_node.proofs.OutgoingLemmas.{IsOutgoing-remove}
use Rattle.lpt_node.proofs.outgoing.Outgoing.pop_first.Goals as goal

pub invariant_of-self-2 : goal.invariant_of-self-2
invariant_of-self-2 c =
    IsOutgoing-remove c.self.inside.messages.entries c.pop_first.new.self.entries c.in_ok-name.name
    c.self.inside.p c.self.invariant (Some c.in_ok-name.field-0-1)
    (sym c.in_ok-name.ensures.value) c.in_ok-name.ensures.len c.in_ok-name.ensures.updates.0

pub returns-clause-rest : goal.returns-clause-rest
returns-clause-rest c =
    ap (λ (m : Messages). record { p = c.self.inside.p; messages = m })
    (by_name-remove c.self.inside.messages.entries c.pop_first.new.self.entries c.in_ok-name.name
    c.in_ok-name.ensures.updates.0)
    ∙ ap (λ (o : OpenMessages). record o { messages = map.remove o.messages c.in_ok-name.name })
    c.self.view_is

pub returns-clause-had : goal.returns-clause-had
returns-clause-had c =
    ap (λ (o : OpenMessages). is_some (map.get o.messages c.in_ok-name.name)) (sym c.self.view_is)
    ∙ ap (λ (m : Option (List ℕ)). is_some m)
    (get-by_name c.self.inside.messages.entries c.in_ok-name.name ∙ c.in_ok-name.ensures.value)

pub returns-clause-len : goal.returns-clause-len
returns-clause-len c =
    let fewer = IsOutgoing-remove c.self.inside.messages.entries c.pop_first.new.self.entries c.in_ok-name.name
    c.self.inside.p c.self.invariant (Some c.in_ok-name.field-0-1)
    (sym c.in_ok-name.ensures.value) c.in_ok-name.ensures.len c.in_ok-name.ensures.updates.0 in
    ap (λ (n : ℕ). n + 1) fewer.counted
    ∙ c.in_ok-name.ensures.len
    ∙ sym c.self.invariant.counted
    ∙ ap (λ (o : OpenMessages). map.len o.messages) c.self.view_is
