-- How many of the requests up to the place have each key.
use Rattle.std.proofs.Common.{◌≡◌, take}
use Rattle.std.specs.BTreeMap.{get}
use Rattle.std.specs.Map.{count_at}
use Rattle.lpt_outcomes.specs.Keys.{Key, key_cmp}
use Rattle.lpt_outcomes.specs.Lines.{with_key}
use Rattle.lpt_outcomes.proofs.answers.count_sharers.Given as goal

abbrev pub invariant-loop-asked : goal.invariant-loop-asked
invariant-loop-asked l =
    (k : Key) → count_at (get key_cmp l.counts) k ≡ with_key (take l.asked-index l.requests) k
