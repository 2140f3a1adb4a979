-- What waits is looked for from the place on.
use Rattle.std.proofs.Common.{◌∙◌, sym, ap}
use Rattle.std.specs.List.{position}
use Rattle.std.proofs.lemmas.List.{take_rest}
use Rattle.lpt_ground.specs.Telling.{is_waiting}
use Rattle.lpt_ground.proofs.PlaceLemmas.{position-Some_drop, position-None_drop}
use Rattle.lpt_ground.proofs.finding.first_from.Goals as goal

pub returns-in-Some-clause-first : goal.returns-in-Some-clause-first
returns-in-Some-clause-first c =
    sym (position-Some_drop is_waiting c.args.asked.now c.args.from c.in-Some.k c.requires.front
    (ap (position is_waiting) (sym (take_rest c.args.asked.now c.args.from))
    ∙ sym c.first_waiting.ensures.first ∙ c.in-Some.is))

pub returns-in-None-clause-first : goal.returns-in-None-clause-first
returns-in-None-clause-first c =
    sym (position-None_drop is_waiting c.args.asked.now c.args.from c.requires.front
    (ap (position is_waiting) (sym (take_rest c.args.asked.now c.args.from))
    ∙ sym c.first_waiting.ensures.first ∙ c.in-None.is))
