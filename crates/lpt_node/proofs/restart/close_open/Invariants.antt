use Rattle.std.proofs.Common.{◌≡◌}
use Rattle.std.specs.FinMap as map
use Rattle.lpt_ledger.specs.Marks.{all_closed}
use Rattle.lpt_node.specs.NodeInside.{AreKept}
use Rattle.lpt_node.proofs.restart.close_open.Given as goal

-- what is open has a message, and what is to be closed in the end is what it was
abbrev pub invariant-loop-name : goal.invariant-loop-name
invariant-loop-name l =
    AreKept l.senders l.outgoing.messages
    × (all_closed l.senders ≡ all_closed l.initial.senders)
    × (l.outgoing.p ≡ l.initial.outgoing.p)

abbrev pub decreases-loop-name : goal.decreases-loop-name
decreases-loop-name l = map.len l.outgoing.messages
