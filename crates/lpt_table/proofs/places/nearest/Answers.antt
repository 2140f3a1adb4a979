-- One place more at the front.
use Rattle.std.proofs.Common.{◌∙◌, ◌-◌, sym, arith, get_or}
use Rattle.lpt_table.specs.Walking.{nearer}
use Rattle.lpt_table.proofs.SpotLemmas.{none}
use Rattle.lpt_table.proofs.WalkingLemmas.{nearest-step}
use Rattle.lpt_table.proofs.places.nearest.Goals as goal

pub loop-at-preserved : goal.loop-at-preserved
loop-at-preserved c =
    let xs = c.args.places.now in
    let at = c.loop-at.at in
    c.nearer-found.ensures
    ∙ (λ i. nearer c.args.after (get_or xs (at - 1) none).name (c.loop-at.invariant i))
    ∙ sym (nearest-step c.args.after xs at (omega (arith, c.loop-at-test.true))
    (omega (arith, c.loop-at.auto.at)))
