-- Names without a reception are tied.
use Rattle.lpt_node.proofs.TiedLemmas.{sound-cleared}
use Rattle.lpt_node.proofs.receiver.Receiver.clear.Goals as goal

pub invariant_of-self : goal.invariant_of-self
invariant_of-self c =
    sound-cleared c.self.inside.ledger c.self.inside.table c.clear_all.new.self
    c.self.invariant
    c.clear_all.ensures
