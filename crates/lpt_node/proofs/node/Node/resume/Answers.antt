-- No sender is open, and no message kept.
use Rattle.std.proofs.Common.{rules}
use Rattle.lpt_node.proofs.SenderLemmas.{sound-new}
use Rattle.lpt_node.proofs.node.Node.resume.Goals as goal

pub invariant_of-result : goal.invariant_of-result
invariant_of-result c =
    sound-new c.args.config.now c.args.senders c.in_ok-receiver.receiver c.new-2.result
    c.requires.config
    (search rules)
    c.requires.senders
    c.new-2.ensures
