use Rattle.std.proofs.Common.{◌≡◌, ℕ}
use Rattle.lpt_c_end.specs.Changes.{ticked_by}
use Rattle.lpt_node.specs.Nodes.{NodeView}
use Rattle.lpt_c_end.proofs.upkeep.set_on.Given as goal

-- so many ticks were made
pub record Made (old new : NodeView) (ticks : ℕ) : Type 0 where
  pub at : new.at ≡ ticked_by ticks old.at
  pub side : new.side ≡ old.side
  pub config : new.config ≡ old.config

abbrev pub invariant-loop : goal.invariant-loop
invariant-loop l = Made l.fn.node l.node l.counter
