use Rattle.std.proofs.Common.{length}
use Rattle.lpt_spacecraft.proofs.kept_file.memories_in.Given as goal

-- octets are left over
abbrev pub decreases-loop-id : goal.decreases-loop-id
decreases-loop-id l = length l.left
