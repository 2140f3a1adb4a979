-- A message is kept where its sender is open, and this one isn't.
use Rattle.std.proofs.Common.{rules}
use Rattle.lpt_node.proofs.SenderLemmas.{sound-retired}
use Rattle.lpt_node.proofs.node.Node.retire.Goals as goal

pub invariant_of-self : goal.invariant_of-self
invariant_of-self c =
    sound-retired c.self.inside.config c.self.inside.senders c.free.new.ledger c.self.inside.receiver
    c.self.inside.outgoing c.args.name
    c.self.invariant
    c.free.ensures
    (search rules)
