-- A free name may have a reception.
use Rattle.lpt_node.proofs.TiedLemmas.{sound-retired}
use Rattle.lpt_node.proofs.receiver.Receiver.retire.Goals as goal

pub invariant_of-self : goal.invariant_of-self
invariant_of-self c =
    sound-retired c.self.inside.ledger c.free.new.ledger c.self.inside.table c.args.name
    c.self.invariant
    c.free.ensures
