-- How many of the requests up to the place have a key that was counted more than once.
use Rattle.std.proofs.Common.{◌≡◌, take}
use Rattle.std.specs.Prelude.{count_by, nat_lt}
use Rattle.std.specs.BTreeMap.{get}
use Rattle.std.specs.Map.{count_at}
use Rattle.lpt_outcomes.specs.Keys.{key_cmp, key_of}
use Rattle.lpt_outcomes.proofs.answers.count_shared.Given as goal

abbrev pub invariant-loop-asked : goal.invariant-loop-asked
invariant-loop-asked l =
    l.shared
    ≡ count_by (λ a. nat_lt 1 (count_at (get key_cmp l.counts) (key_of a)))
    (take l.asked-index l.requests)
