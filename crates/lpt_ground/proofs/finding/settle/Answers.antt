-- None in front of the first that waited waits then.
use Rattle.std.proofs.Common.{◌∙◌, ◌≤◌, List, ap, subst, sym}
use Rattle.std.specs.List.{position_or_len, slice_get}
use Rattle.lpt_ground.specs.declared.asked.Asked.{Asked}
use Rattle.lpt_ground.specs.declared.asked.Fate.{Fate}
use Rattle.lpt_ground.specs.Telling.{request_fated, is_waiting}
use Rattle.lpt_ground.proofs.WaitingLemmas.{fated-first}
use Rattle.lpt_ground.proofs.finding.settle.Goals as goal

pub first_from-requires-clause-front : goal.first_from-requires-clause-front
first_from-requires-clause-front c =
    let before = c.args.asked.now in
    let k = c.args.k in
    let now = c.set_fate.ensures
    ∙ ap (λ (f : Fate). request_fated before k f (slice_get before k)) c.fate.ensures in
    subst (λ (xs : List Asked). c.args.first ≤ position_or_len is_waiting xs) (sym now)
    (fated-first before k c.args.said c.args.octets c.args.first c.requires.first)
