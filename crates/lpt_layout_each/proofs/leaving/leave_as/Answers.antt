-- Name after name, until none is left.
use Rattle.std.proofs.Common.{◌≡◌, refl, ◌<◌, true, false, List, [], ◌∷◌, length, arith}
use Rattle.lpt_stream.proofs.EndLemmas.{any-err}
use Rattle.lpt_layout_each.specs.Eaches.{course_held}
use Rattle.lpt_layout_each.proofs.TellLemmas.{left-all, left-first, left-next, left-part}
use Rattle.lpt_layout_each.proofs.leaving.leave_as.Goals as goal

no_true : false ≡ true → ⊥
no_true h = cc

-- no entry was there to be taken
none_left : {A : Type 0} (es : List A) → (0 < length es → false ≡ true) → es ≡ []
none_left [] h = refl
none_left (e ∷ es) h = absurd (no_true (h (omega arith)))

pub loop-name-init : goal.loop-name-init
loop-name-init g c = λ r any bs h.
    left-first r any bs c.args.helds (g.T.TakerAs.heard c.args.taker.now) h

pub loop-name-preserved : goal.loop-name-preserved
loop-name-preserved g c = λ r any bs h.
    let was = c.loop-name.invariant r any bs h in
    let name = c.in-Some.name in
    left-next r any bs c.args.helds.kept c.loop-name.kept c.pop_first.new.self name c.in-Some.held
    (g.T.TakerAs.heard c.args.taker.now) (g.T.TakerAs.heard c.loop-name.taker)
    (g.T.TakerAs.heard c.tell_left.new.taker) was c.in-Some.ensures.removal
    c.in-Some.ensures.updates.0
    (c.in_ok-tell_left.ensures.told (course_held r any name bs)
    (was.holds name c.in-Some.held c.in-Some.ensures.value))

pub returns-clause-told : goal.returns-clause-told
returns-clause-told g c = λ r any bs h.
    left-all r any bs c.args.helds c.loop-name.kept (g.T.TakerAs.heard c.args.taker.now)
    (g.T.TakerAs.heard c.loop-name.taker) h (c.loop-name.invariant r any bs h)
    (none_left c.loop-name.kept.entries c.in_default.ensures.variant.1)

pub returns-in_err-tell_left-clause-left : goal.returns-in_err-tell_left-clause-left
returns-in_err-tell_left-clause-left g c = λ r any bs h.
    let was = c.loop-name.invariant r any bs h in
    let name = c.in-Some.name in
    any-err _ c.from_residual.result
    (left-part r any bs c.args.helds c.loop-name.kept c.pop_first.new.self name c.in-Some.held
    (g.T.TakerAs.heard c.args.taker.now) (g.T.TakerAs.heard c.loop-name.taker)
    (g.T.TakerAs.heard c.tell_left.new.taker) h was c.in-Some.ensures.removal
    (c.in_err-tell_left.ensures.left (course_held r any name bs)
    (was.holds name c.in-Some.held c.in-Some.ensures.value)))
