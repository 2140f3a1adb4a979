-- The map's message of a name.
use Rattle.std.proofs.Common.{Some, ap, sym, subst, length, List, ℕ, ◌∙◌}
use Rattle.std.specs.FinMap as map
use Rattle.lpt_node.specs.NodeInside.{OpenMessages}
use Rattle.lpt_node.specs.Nodes.{MessageFits}
use Rattle.lpt_packet.proofs.NamedLemmas.{get-by_name}
use Rattle.lpt_node.proofs.outgoing.Outgoing.get.Goals as goal

-- ---- the name has none

pub returns-in-None-clause-message : goal.returns-in-None-clause-message
returns-in-None-clause-message c =
    c.in-None.ensures.value
    ∙ sym (get-by_name c.self.inside.messages.entries c.args.name)
    ∙ ap (λ (o : OpenMessages). map.get o.messages c.args.name) c.self.view_is

-- ---- it has one

pub returns-in-Some-clause-message : goal.returns-in-Some-clause-message
returns-in-Some-clause-message c =
    ap (λ (m : List ℕ). Some m) c.as_slice.ensures.same
    ∙ c.in-Some.ensures.value
    ∙ sym (get-by_name c.self.inside.messages.entries c.args.name)
    ∙ ap (λ (o : OpenMessages). map.get o.messages c.args.name) c.self.view_is

pub returns-in-Some-clause-fits : goal.returns-in-Some-clause-fits
returns-in-Some-clause-fits c =
    subst (λ (p : ℕ). MessageFits p (length c.as_slice.result.now))
    (ap (λ (o : OpenMessages). o.p) c.self.view_is)
    (c.self.invariant.fits c.args.name c.as_slice.result.now
    (get-by_name c.self.inside.messages.entries c.args.name
    ∙ sym (ap (λ (m : List ℕ). Some m) c.as_slice.ensures.same ∙ c.in-Some.ensures.value)))
