-- None so far has no octets.
use Rattle.std.proofs.Common.{◌≡◌, drop}
use Rattle.lpt_c.specs.Requests.{any_empty}
use Rattle.lpt_c.proofs.requests.any_empty.Given as goal

abbrev pub invariant-loop-range : goal.invariant-loop-range
invariant-loop-range l = any_empty (drop l.range-index l.ranges) ≡ any_empty l.ranges
