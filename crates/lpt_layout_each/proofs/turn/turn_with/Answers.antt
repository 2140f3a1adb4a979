-- By what the parts are joined to.
use Rattle.std.proofs.Common.{◌∙◌, ap, sym, false}
use Rattle.std.specs.Prelude.{is_some}
use Rattle.lpt_layout.specs.Parts.{piece}
use Rattle.lpt_layout_join.specs.Writes.{unfit}
use Rattle.lpt_layout_each.specs.Eaches.{more}
use Rattle.lpt_layout_each.proofs.TurnLemmas.{turn-broken, turn-gives, turn-unfit, turn-waits}
use Rattle.lpt_layout_each.proofs.turn.turn_with.Goals as goal

pub returns-then-is_some-clause-turn : goal.returns-then-is_some-clause-turn
returns-then-is_some-clause-turn c = λ came h again.
    let q = piece c.args.part.now in
    let shows = c.in_ok-take_from.ensures.came came h in
    turn-broken c.args.reading.now c.args.any again came q
    (sym c.if-is_some.true ∙ c.is_some.ensures
    ∙ ap is_some (c.against.ensures (more came q) shows))

pub returns-in-None-clause-turn : goal.returns-in-None-clause-turn
returns-in-None-clause-turn c = λ came h again.
    let q = piece c.args.part.now in
    let shows = c.in_ok-take_from.ensures.came came h in
    sym (turn-waits c.args.reading.now c.args.any again came q
    (sym c.if-is_some.false ∙ c.is_some.ensures
    ∙ ap is_some (c.against.ensures (more came q) shows))
    (sym c.in-None.is ∙ c.in_ok-message.ensures (more came q) shows))

pub returns-in-None-unfit-clause-turn : goal.returns-in-None-unfit-clause-turn
returns-in-None-unfit-clause-turn c = λ came h again.
    let r = c.args.reading.now in
    let q = piece c.args.part.now in
    let shows = c.in_ok-take_from.ensures.came came h in
    sym (turn-gives r c.args.any again came q c.in-Some.message
    (sym c.if-is_some.false ∙ c.is_some.ensures
    ∙ ap is_some (c.against.ensures (more came q) shows))
    (sym c.in-Some.is ∙ c.in_ok-message.ensures (more came q) shows)
    (c.in-None-unfit.ensures ∙ ap (unfit r c.args.any false) c.as_slice.ensures.same))

pub returns-in-Some-unfit-clause-turn : goal.returns-in-Some-unfit-clause-turn
returns-in-Some-unfit-clause-turn c = λ came h again.
    let r = c.args.reading.now in
    let q = piece c.args.part.now in
    let shows = c.in_ok-take_from.ensures.came came h in
    sym (turn-unfit r c.args.any again came q c.in-Some.message c.in-Some-unfit.misfit
    (sym c.if-is_some.false ∙ c.is_some.ensures
    ∙ ap is_some (c.against.ensures (more came q) shows))
    (sym c.in-Some.is ∙ c.in_ok-message.ensures (more came q) shows)
    (c.in-Some-unfit.ensures ∙ ap (unfit r c.args.any false) c.as_slice.ensures.same))
