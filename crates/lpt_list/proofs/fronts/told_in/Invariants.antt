use Rattle.std.proofs.Common.{length}
use Rattle.lpt_list.proofs.FrontLemmas.{IsSeen}
use Rattle.lpt_list.proofs.fronts.told_in.Given as goal

-- the packets up to here were told
abbrev pub invariant-loop-len : goal.invariant-loop-len
invariant-loop-len l = IsSeen l.layouts l.octets l.rest l.told

-- each packet leaves fewer octets
abbrev pub decreases-loop-len : goal.decreases-loop-len
decreases-loop-len l = length l.rest
