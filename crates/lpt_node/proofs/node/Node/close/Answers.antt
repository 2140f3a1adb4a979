-- The message is let go, and its sender closed.
use Rattle.lpt_node.proofs.SenderLemmas.{sound-closed}
use Rattle.lpt_node.proofs.node.Node.close.Goals as goal

pub invariant_of-self : goal.invariant_of-self
invariant_of-self c =
    sound-closed c.self.inside.config c.self.inside.senders c.close.new.self c.self.inside.receiver
    c.self.inside.outgoing c.remove.new.self c.args.name
    c.self.invariant
    c.in-Ok.ensures.ok
    c.remove.ensures
