-- What was found, with what the rest has, is all.
use Rattle.std.proofs.Common.{◌≡◌, ◌++◌, length}
use Rattle.lpt_tool.specs.Full.{full_of}
use Rattle.lpt_tool.proofs.full.full_of.Given as goal

abbrev pub invariant-loop-seat : goal.invariant-loop-seat
invariant-loop-seat l = l.full.items ++ full_of l.limit l.journal l.rest ≡ full_of l.limit l.journal l.seats

abbrev pub decreases-loop-seat : goal.decreases-loop-seat
decreases-loop-seat l = length l.rest
