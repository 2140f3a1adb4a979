-- What was added so far, and the packets of the others, are the packets of all.
use Rattle.std.proofs.Common.{◌≡◌, ◌++◌, drop}
use Rattle.lpt_ground_run.specs.Keeping.{all_kept}
use Rattle.lpt_ground_run.proofs.keeping.kept_packets.Given as goal

abbrev pub invariant-loop-one : goal.invariant-loop-one
invariant-loop-one l = l.octets.items ++ all_kept (drop l.one-index l.asked) ≡ all_kept l.asked
