-- One request more.
use Rattle.std.proofs.Common.{rules}
use Rattle.std.specs.BTreeMap.{get}
use Rattle.lpt_outcomes.specs.Keys.{key_cmp}
use Rattle.lpt_outcomes.proofs.KeyLemmas.{counted-put}
use Rattle.lpt_outcomes.proofs.answers.count_sharers.Goals as goal

pub loop-asked-preserved : goal.loop-asked-preserved
loop-asked-preserved c = λ k.
    counted-put c.args.requests.now c.loop-asked.asked-index _ c.key.result k c.sharers-count.result
    (get key_cmp c.loop-asked.counts) _ (search rules) c.key.ensures c.sharers-count.ensures
    (c.loop-asked.invariant k) (c.in_ok-insert.ensures.updates.0 k)
