-- By what the part makes of the new parts.
use Rattle.std.proofs.Common.{◌∙◌, ap, sym, subst, refl, Some}
use Rattle.std.specs.Prelude.{Option}
use Rattle.lpt_layout.specs.Parts.{piece}
use Rattle.lpt_layout_join.specs.declared.came.CameAs.{CameAs}
use Rattle.lpt_layout_join.specs.CameInside.{Shows}
use Rattle.lpt_layout_each.specs.declared.held.HeldAs.{HeldAs}
use Rattle.lpt_layout_each.specs.declared.news.NewsAs.TheVariants as said
use Rattle.lpt_layout_each.specs.declared.turn.Turn as code
use Rattle.lpt_layout_each.specs.Eaches.{Held, all_turn, alone, held_begun, more, seed, turn}
use Rattle.lpt_layout_each.specs.Helds.{Holds, IsTurn, ShowsSome, Takes}
use Rattle.lpt_layout_each.specs.News.{News, Unfit, parts_dropped}
use Rattle.lpt_layout_each.proofs.StepLemmas.{dropped-shown, step-gives, step-gives_up, step-old, step-waits}
use Rattle.lpt_layout_each.proofs.held.HeldAs.take.Goals as goal

-- a part of the last message
pub returns-then-old : goal.returns-then-old
returns-then-old c = λ h k.
    let r = c.args.reading.now in
    let any = c.args.any in
    let again = c.args.again in
    let q = piece c.args.part.now in
    subst (λ (s : Held × Option News). Takes (c.go_by_all.new.self, c.go_by_all.result) s)
    (step-old r any again h q (sym (c.is_old-old.ensures h.last k.last) ∙ c.if-old.true))
    (c.go_by_all.ensures h.last h.all h.new q (all_turn r any again h.all q) again k.last
    (c.in_ok-all.ensures.came h.all k.all) k.new
    (c.in_ok-all.ensures.turn h.all k.all again))

-- parts are missing
pub returns-in-Waits : goal.returns-in-Waits
returns-in-Waits c = λ h k.
    let r = c.args.reading.now in
    let any = c.args.any in
    let again = c.args.again in
    let q = piece c.args.part.now in
    let w = subst
    (λ (u : code.Turn). IsTurn again h.new q u (turn r any again h.new q)) c.in-Waits.is
    (c.in_ok-turn_with.ensures.turn h.new k.new again) in
    subst (λ (s : Held × Option News).
    Takes (c.go_by_all-in-Waits.new.self, c.go_by_all-in-Waits.result) s)
    (step-waits r any again h q (more h.new q)
    (sym (c.is_old-old.ensures h.last k.last) ∙ c.if-old.false) w)
    (c.go_by_all-in-Waits.ensures h.last h.all (more h.new q) q (all_turn r any again h.all q) again
    k.last (c.in_ok-all.ensures.came h.all k.all) (c.in_ok-turn_with.ensures.came h.new k.new)
    (c.in_ok-all.ensures.turn h.all k.all again))

-- it contradicts the others
pub returns-in_ok-next-in-Broken : goal.returns-in_ok-next-in-Broken
returns-in_ok-next-in-Broken c = λ h k.
    let r = c.args.reading.now in
    let any = c.args.any in
    let again = c.args.again in
    let q = piece c.args.part.now in
    let w = subst
    (λ (u : code.Turn). IsTurn again h.new q u (turn r any again h.new q)) c.in-Broken.is
    (c.in_ok-turn_with.ensures.turn h.new k.new again) in
    subst (λ (s : Held × Option News).
    Takes (c.replace-before.new.dest, Some (said.Dropped c.replace-before.result.rest)) s)
    (step-gives_up r any again h q (parts_dropped (more h.new q)) (alone q)
    (sym (c.is_old-old.ensures h.last k.last) ∙ c.if-old.false) w)
    (record {
      holds = subst (λ (g : HeldAs). Holds (held_begun h.last (alone q)) g)
          (sym c.replace-before.ensures.after)
          (c.in_ok-next-in-Broken.ensures h.last
          (subst (λ (s : Option CameAs). ShowsSome h.last s) (sym c.take.ensures.value) k.last));
      tells = ap Some (dropped-shown (more h.new q) c.replace-before.result.rest
          (subst (λ (g : HeldAs). Shows (more h.new q) g.rest) (sym c.replace-before.ensures.value)
          (c.in_ok-turn_with.ensures.came h.new k.new)));
    })

-- they are joined to what isn't given out
pub returns-in_ok-self-in-Unfit : goal.returns-in_ok-self-in-Unfit
returns-in_ok-self-in-Unfit c = λ h k.
    let r = c.args.reading.now in
    let any = c.args.any in
    let again = c.args.again in
    let q = piece c.args.part.now in
    let w = subst
    (λ (u : code.Turn). IsTurn again h.new q u (turn r any again h.new q)) c.in-Unfit.is
    (c.in_ok-turn_with.ensures.turn h.new k.new again) in
    subst (λ (s : Held × Option News).
    Takes (c.in_ok-self-in-Unfit.field-0, Some (said.Unfit c.in-Unfit.misfit)) s)
    (step-gives_up r any again h q (Unfit c.in-Unfit.misfit) (seed again q)
    (sym (c.is_old-old.ensures h.last k.last) ∙ c.if-old.false) w)
    (record {
      holds = c.in_ok-self-in-Unfit.ensures h.last
          (subst (λ (s : Option CameAs). ShowsSome h.last s) (sym c.take-in-Unfit.ensures.value)
          k.last);
      tells = refl;
    })

-- they are joined to a message
pub returns-in-Gives : goal.returns-in-Gives
returns-in-Gives c = λ h k.
    let r = c.args.reading.now in
    let any = c.args.any in
    let again = c.args.again in
    let q = piece c.args.part.now in
    let w = subst
    (λ (u : code.Turn). IsTurn again h.new q u (turn r any again h.new q)) c.in-Gives.is
    (c.in_ok-turn_with.ensures.turn h.new k.new again) in
    subst (λ (s : Held × Option News).
    Takes (c.behind.result, Some (said.Given c.in-Gives.message)) s)
    (step-gives r any again h q (more h.new q) c.in-Gives.message
    (sym (c.is_old-old.ensures h.last k.last) ∙ c.if-old.false) w)
    (record {
      holds = c.behind.ensures (Some (more h.new q))
          (subst (λ (s : CameAs). Shows (more h.new q) s) (sym c.replace-came.ensures.value)
          (c.in_ok-turn_with.ensures.came h.new k.new));
      tells = refl;
    })
