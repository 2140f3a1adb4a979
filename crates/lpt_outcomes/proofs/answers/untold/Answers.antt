-- One request more.
use Rattle.std.proofs.Common.{rules}
use Rattle.lpt_outcomes.proofs.KeyLemmas.{untold-put}
use Rattle.lpt_outcomes.proofs.answers.untold.Goals as goal

pub loop-asked-preserved : goal.loop-asked-preserved
loop-asked-preserved c = λ k.
    untold-put c.args.requests.now c.loop-asked.asked-index _ c.key.result k c.new.result _ _
    (search rules) c.key.ensures c.new.ensures (c.loop-asked.invariant k)
    (c.in_ok-insert.ensures.updates.0 k)
