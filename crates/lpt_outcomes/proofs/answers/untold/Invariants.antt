-- The keys of the requests up to the place.
use Rattle.std.proofs.Common.{◌≡◌, take}
use Rattle.std.specs.BTreeMap.{get}
use Rattle.lpt_outcomes.specs.Answers.{untold}
use Rattle.lpt_outcomes.specs.Keys.{Key, key_cmp}
use Rattle.lpt_outcomes.proofs.answers.untold.Given as goal

abbrev pub invariant-loop-asked : goal.invariant-loop-asked
invariant-loop-asked l =
    (k : Key) → get key_cmp l.outcomes k ≡ untold (take l.asked-index l.requests) k
