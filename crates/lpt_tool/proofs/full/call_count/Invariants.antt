-- The count so far, with that of the rest, is the whole.
use Rattle.std.proofs.Common.{◌≡◌, ◌≤◌, ◌+◌, length}
use Rattle.lpt_tool.specs.Full.{call_count}
use Rattle.lpt_tool.proofs.full.call_count.Given as goal

abbrev pub invariant-loop-entry : goal.invariant-loop-entry
invariant-loop-entry l =
    (l.count + length l.rest ≤ length l.journal) × (l.count + call_count l.seat l.rest ≡ call_count l.seat l.journal)

abbrev pub decreases-loop-entry : goal.decreases-loop-entry
decreases-loop-entry l = length l.rest
