-- An open name has no reception that it could be tied to.
use Rattle.lpt_node.proofs.TiedLemmas.{never_open}
use Rattle.lpt_node.proofs.receiver.Receiver.ledger.Goals as goal

pub returns-clause-none_open : goal.returns-clause-none_open
returns-clause-none_open c =
    never_open c.self.inside.ledger c.self.inside.table.entries c.self.invariant.tied
