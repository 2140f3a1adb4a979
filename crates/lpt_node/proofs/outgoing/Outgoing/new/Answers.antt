-- There are no messages.
use Rattle.lpt_node.proofs.OutgoingLemmas.{IsOutgoing-nil}
use Rattle.lpt_node.proofs.outgoing.Outgoing.new.Goals as goal

pub invariant_of-result : goal.invariant_of-result
invariant_of-result c = rw c.new.ensures.empty (IsOutgoing-nil c.args.p)
