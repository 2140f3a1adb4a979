-- The message is kept, and its sender open; without memory for that nothing has changed.
use Rattle.lpt_node.proofs.SenderLemmas.{sound-begun}
use Rattle.lpt_node.proofs.node.Node.open.Goals as goal

pub invariant_of-self : goal.invariant_of-self
invariant_of-self c =
    sound-begun c.begin.result c.self.inside.config c.self.inside.senders c.begin.new.senders c.self.inside.receiver
    c.self.inside.outgoing c.begin.new.outgoing c.args.name c.args.message
    c.self.invariant
    c.begin.ensures.opened
    c.begin.ensures.kept
    c.begin.ensures.unopened
    c.begin.ensures.unkept
