-- What is held with it is the run, too.
use Rattle.std.proofs.Common.{◌≡◌, ◌∙◌, ap, sym, subst, refl, ◌≤◌, Bool, Option, Some, None, arith, rules}
use Rattle.std.specs.Prelude.{is_some}
use Rattle.lpt_layout.specs.Parts.{piece}
use Rattle.lpt_layout_join.specs.declared.came.CameAs.{CameAs}
use Rattle.lpt_layout_join.specs.declared.last_part.LastPart.{LastPart}
use Rattle.lpt_layout_join.specs.declared.order.Order.{Order}
use Rattle.lpt_layout_join.specs.Came.{last_of}
use Rattle.lpt_layout_join.specs.CameInside.{Shows}
use Rattle.lpt_layout_join.specs.Orders.{is_in_order, order_after}
use Rattle.lpt_layout_join.specs.Writes.{unfit}
use Rattle.lpt_layout_each.specs.declared.course.CourseAs.{CourseAs}
use Rattle.lpt_layout_each.specs.Eaches.{alone, held_begun, fresh, is_old, more}
use Rattle.lpt_layout_each.specs.Helds.{Follows, ShowsSome, broken_course, course_alone, goes_on}
use Rattle.lpt_layout_each.specs.News.{Given, Unfit, parts_dropped}
use Rattle.lpt_layout_each.proofs.AloneLemmas.{alone-broken, alone-gives, alone-next, alone-steps, alone-unfit, alone-waits, is-alone, kept-alone, ordered-some}
use Rattle.lpt_layout_each.proofs.StepLemmas.{dropped-shown}
use Rattle.lpt_layout_each.proofs.course.CourseAs.add_alone.Goals as goal

-- it contradicts them
pub returns-then-is_some : goal.returns-then-is_some
returns-then-is_some c = λ k h goes.
    let r = c.args.reading.now in
    let any = c.args.any in
    let now = c.args.missing in
    let q = piece c.args.part.now in
    let o = c.args.self.now.run.order in
    let w = is-alone c.args.self.now.alone (goes_on o q.number) (is_old k.held.last q) goes in
    let a = kept-alone k c.args.self.now w.0 h in
    let d = more k.held.new q in
    let shows = c.in_ok-take_from.ensures.came k.held.new h.new in
    alone-steps r any now q k.held.last o k.held.new w.1 w.2 a.1 k _
    (broken_course (held_begun k.held.last (alone q)), Some (parts_dropped d)) a.0
    (alone-broken r any now q k.held.last o k.held.new w.1 w.2 a.1
    (sym (ap is_some (c.against.ensures d shows)) ∙ sym c.is_some.ensures ∙ c.if-is_some.true))
    (record {
      follows = subst (λ (g : CourseAs). Follows (broken_course (held_begun k.held.last (alone q)))
          g)
          (sym c.replace-before.ensures.after)
          (c.with_held.ensures (held_begun k.held.last (alone q))
          (c.in_ok-held.ensures k.held.last
          (subst (λ (s : Option CameAs). ShowsSome k.held.last s) (sym c.take.ensures.value)
          h.last)));
      tells = ap Some (dropped-shown d c.into_new.result
          (subst (λ (s : CameAs). Shows d s)
          (sym (c.into_new.ensures
          ∙ ap (λ (g : CourseAs). g.held.rest) c.replace-before.ensures.value)) shows));
    })

-- parts are missing
pub returns-in_default : goal.returns-in_default
returns-in_default c = λ k h goes.
    let r = c.args.reading.now in
    let any = c.args.any in
    let now = c.args.missing in
    let q = piece c.args.part.now in
    let o = c.args.self.now.run.order in
    let w = is-alone c.args.self.now.alone (goes_on o q.number) (is_old k.held.last q) goes in
    let a = kept-alone k c.args.self.now w.0 h in
    let d = more k.held.new q in
    let shows = c.in_ok-take_from.ensures.came k.held.new h.new in
    let none : c.in_ok-message.field-0 ≡ None = first_of (
      search (rules, c.in_default.is),
      grind (arith, c.in_default.not-Some),
    ) in
    alone-steps r any now q k.held.last o k.held.new w.1 w.2 a.1 k _
    (course_alone k.held.last (order_after o q.number now) d, None) a.0
    (alone-waits r any now q k.held.last o k.held.new w.1 w.2 a.1
    (sym (ap is_some (c.against.ensures d shows)) ∙ sym c.is_some.ensures ∙ c.if-is_some.false)
    (sym (c.in_ok-message.ensures d shows) ∙ none))
    (record {
      follows = alone-next k c.args.self.now c.with-self.result (order_after o q.number now) d
          c.take_from.new.self w.0 h c.with-self.ensures
          (ordered-some o q.number now c.requires.number w.1) shows;
      tells = refl;
    })

-- the message
pub returns-in-None : goal.returns-in-None
returns-in-None c = λ k h goes.
    let r = c.args.reading.now in
    let any = c.args.any in
    let now = c.args.missing in
    let q = piece c.args.part.now in
    let o = c.args.self.now.run.order in
    let w = is-alone c.args.self.now.alone (goes_on o q.number) (is_old k.held.last q) goes in
    let a = kept-alone k c.args.self.now w.0 h in
    let d = more k.held.new q in
    let m = c.in-Some.message in
    let shows = c.in_ok-take_from.ensures.came k.held.new h.new in
    let sure = c.is_whole-sure.ensures
    ∙ ap (λ (l : Option LastPart). is_in_order l c.with-self.result) (c.last.ensures d shows)
    ∙ ap (is_in_order (last_of d.parts)) c.with-self.ensures in
    alone-steps r any now q k.held.last o k.held.new w.1 w.2 a.1 k _
    (fresh (Some d), Some (Given m)) a.0
    (alone-gives r any now q k.held.last o k.held.new w.1 w.2 a.1 m
    (sym (ap is_some (c.against.ensures d shows)) ∙ sym c.is_some.ensures ∙ c.if-is_some.false)
    (sym (c.in_ok-message.ensures d shows) ∙ c.in-Some.is)
    (ap (λ (b : Bool). unfit r any b m) (sym sure)
    ∙ sym (c.in-None.ensures
    ∙ ap (unfit r any c.is_whole-sure.result) c.as_slice.ensures.same)))
    (record {
      follows = c.behind.ensures (Some d)
          (subst (λ (s : CameAs). Shows d s) (sym c.replace-came.ensures.value) shows);
      tells = refl;
    })

-- no message that may be given out
pub returns-in-Some-unfit : goal.returns-in-Some-unfit
returns-in-Some-unfit c = λ k h goes.
    let r = c.args.reading.now in
    let any = c.args.any in
    let now = c.args.missing in
    let q = piece c.args.part.now in
    let o = c.args.self.now.run.order in
    let w = is-alone c.args.self.now.alone (goes_on o q.number) (is_old k.held.last q) goes in
    let a = kept-alone k c.args.self.now w.0 h in
    let d = more k.held.new q in
    let m = c.in-Some.message in
    let e = c.in-Some-unfit.misfit in
    let shows = c.in_ok-take_from.ensures.came k.held.new h.new in
    let sure = c.is_whole-sure.ensures
    ∙ ap (λ (l : Option LastPart). is_in_order l c.with-self.result) (c.last.ensures d shows)
    ∙ ap (is_in_order (last_of d.parts)) c.with-self.ensures in
    alone-steps r any now q k.held.last o k.held.new w.1 w.2 a.1 k _
    (fresh k.held.last, Some (Unfit e)) a.0
    (alone-unfit r any now q k.held.last o k.held.new w.1 w.2 a.1 m e
    (sym (ap is_some (c.against.ensures d shows)) ∙ sym c.is_some.ensures ∙ c.if-is_some.false)
    (sym (c.in_ok-message.ensures d shows) ∙ c.in-Some.is)
    (ap (λ (b : Bool). unfit r any b m) (sym sure)
    ∙ sym (c.in-Some-unfit.ensures
    ∙ ap (unfit r any c.is_whole-sure.result) c.as_slice.ensures.same)))
    (record {
      follows = c.behind-in-Some-unfit.ensures k.held.last
          (subst (λ (s : Option CameAs). ShowsSome k.held.last s)
          (sym c.take-in-Some-unfit.ensures.value) h.last);
      tells = refl;
    })
