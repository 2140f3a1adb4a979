-- The octets in front are the same.
use Rattle.lpt_compare.specs.Differences.{AreSame}
use Rattle.lpt_compare.proofs.differing.first_differing.Given as goal

abbrev pub invariant-loop-place : goal.invariant-loop-place
invariant-loop-place l = AreSame l.old l.new l.from l.place
