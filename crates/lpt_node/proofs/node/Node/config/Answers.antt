-- An end's limits are its configuration's.
use Rattle.std.proofs.Common.{◌≡◌, subst, refl}
use Rattle.lpt_acts.specs.Acts.{limits_of}
use Rattle.lpt_node.specs.Nodes.{NodeView}
use Rattle.lpt_node.specs.Restarts.{limits_at}
use Rattle.lpt_node.proofs.node.Node.config.Goals as goal

pub returns-clause-limits : goal.returns-clause-limits
returns-clause-limits c =
    subst (λ (n : NodeView). limits_at n.at ≡ limits_of n.config) c.self.view_is refl
