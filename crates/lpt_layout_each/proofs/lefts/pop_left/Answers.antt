-- Name after name, until something is left of one.
use Rattle.std.proofs.Common.{◌∙◌, ap, sym, List, ◌++◌}
use Rattle.lpt_layout_each.specs.declared.helds.HeldsAs.{HeldsAs}
use Rattle.lpt_layout_each.specs.Eaches.{course_held}
use Rattle.lpt_layout_each.specs.Lefts.{left_yet}
use Rattle.lpt_layout_each.specs.News.{Event}
use Rattle.lpt_layout_each.specs.Told.{events_of}
use Rattle.lpt_layout_each.proofs.LeftLemmas.{left-split, yet-first, yet-next}
use Rattle.lpt_layout_each.proofs.lefts.pop_left.Goals as goal

pub returns-in-Some-left_in-clause-first : goal.returns-in-Some-left_in-clause-first
returns-in-Some-left_in-clause-first c = λ r any bs h. yet-first r any bs c.args.helds.now h

pub returns-in-Some-left_in-clause-held : goal.returns-in-Some-left_in-clause-held
returns-in-Some-left_in-clause-held c = λ r any bs h.
    yet-next r any bs c.loop-name.helds
    (record { kept = c.pop_first.new.self; counts = c.loop-name.helds.counts })
    c.in-Some.name c.in-Some.ensures.updates.0 (c.loop-name.invariant r any bs h).0

-- nothing is left of this one
pub loop-name-preserved : goal.loop-name-preserved
loop-name-preserved c = λ r any bs h.
    let was = c.loop-name.invariant r any bs h in
    let old = c.loop-name.helds in
    let new : HeldsAs = record { kept = c.pop_first.new.self; counts = old.counts } in
    let name = c.in-Some.name in
    let none = sym (c.left_in.ensures (course_held r any name bs)
    (was.0 name c.in-Some.held c.in-Some.ensures.value)) ∙ ap events_of c.in-None.is in (
      yet-next r any bs old new name c.in-Some.ensures.updates.0 was.0,
      was.1 ∙ left-split r any bs old new name c.in-Some.held c.in-Some.ensures.removal
          ∙ ap (λ (es : List Event). es ++ left_yet r any bs new) none,
    )

pub returns-clause-first : goal.returns-clause-first
returns-clause-first c = λ r any bs h. yet-first r any bs c.args.helds.now h
