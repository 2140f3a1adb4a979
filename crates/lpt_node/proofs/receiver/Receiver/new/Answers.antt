-- No name is open, and no reception.
use Rattle.lpt_node.proofs.TiedLemmas.{sound-new}
use Rattle.lpt_node.proofs.receiver.Receiver.new.Goals as goal

pub invariant_of-result : goal.invariant_of-result
invariant_of-result c =
    sound-new c.args.limit c.args.timeout c.args.p c.args.mode c.args.ledger c.in_ok-table.table
    c.requires.closed
    c.in_ok-table.ensures
