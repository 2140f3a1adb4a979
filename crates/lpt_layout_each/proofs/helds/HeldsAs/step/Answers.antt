-- By whether something is kept of the name.
use Rattle.std.proofs.Common.{rules, ◌≡◌, ◌∙◌, ap, sym, subst, Option, Some, None}
use Rattle.std.specs.Option.{option_copied_mut}
use Rattle.std.specs.BTreeMap.{BTreeMap, get, IsOrdered}
use Rattle.lpt_carried.specs.declared.name.Name.{Name}
use Rattle.lpt_carried.specs.Carried.{name_of, part_named, same_name}
use Rattle.lpt_layout.specs.Parts.{piece}
use Rattle.lpt_layout_join.specs.Names.{name_cmp}
use Rattle.lpt_layout_each.specs.declared.kept.KeptAs.{KeptAs}
use Rattle.lpt_layout_each.specs.Eaches.{Course, nothing, step}
use Rattle.lpt_layout_each.specs.Helds.{Follows, IsHeld}
use Rattle.lpt_layout_each.proofs.HeldsLemmas.{steps-at}
use Rattle.lpt_layout_each.proofs.helds.HeldsAs.step.Goals as goal

pub returns-in_err-news-in-None-clause-in_order : goal.returns-in_err-news-in-None-clause-in_order
returns-in_err-news-in-None-clause-in_order c =
    subst (λ (m : BTreeMap Name KeptAs). IsOrdered name_cmp m)
    (sym c.get_mut.follows.holds-at-none)
    c.get_mut.ensures.ordered

pub returns-in-Some-clause-steps : goal.returns-in-Some-clause-steps
returns-in-Some-clause-steps c = λ k h.
    let n = name_of (part_named c.args.part.now) in
    let now = c.get_mut.follows.lender c.take.new.self in
    let there : get name_cmp c.args.self.now.kept n ≡ Some c.in-Some.kept.now =
    ap (get name_cmp c.args.self.now.kept) (sym c.name-name.ensures)
    ∙ sym c.get_mut.ensures.value ∙ ap option_copied_mut c.in-Some.is in
    steps-at n now c.take.new.self c.take.result
    (step c.args.reading.now c.args.any c.args.missing k (piece c.args.part.now.part))
    (subst (λ (m : Name). get name_cmp now m ≡ Some c.take.new.self) c.name-name.ensures
    ((c.get_mut.follows.holds c.take.new.self).3 (search rules)).1)
    (c.take.ensures k (subst (λ (o : Option KeptAs). IsHeld k o) there h))

pub returns-in_ok-put-in-None-clause-steps : goal.returns-in_ok-put-in-None-clause-steps
returns-in_ok-put-in-None-clause-steps c = λ k h.
    let n = name_of (part_named c.args.part.now) in
    let none : get name_cmp c.args.self.now.kept n ≡ None =
    ap (get name_cmp c.args.self.now.kept) (sym c.name-name.ensures)
    ∙ sym c.get_mut.ensures.value ∙ ap option_copied_mut c.in-None.is in
    let is : k ≡ nothing = subst (λ (o : Option KeptAs). IsHeld k o) none h in
    let steps = c.in_ok-news-in-None.ensures k
    (subst (λ (d : Course). Follows d c.behind-course.result) (sym is)
    (c.behind-course.ensures None tt)) in
    let s = step c.args.reading.now c.args.any c.args.missing k (piece c.args.part.now.part) in (
      c.in_ok-kept-in-None.kept,
      subst (λ (m : Name). get name_cmp c.put.new.self.kept m ≡ Some c.in_ok-kept-in-None.kept)
          c.name-name.ensures c.in_ok-put-in-None.ensures.kept,
      record { keeps = c.in_ok-kept-in-None.ensures s.0 steps.follows; tells = steps.tells },
    )

pub returns-in_ok-put-in-None-clause-others : goal.returns-in_ok-put-in-None-clause-others
returns-in_ok-put-in-None-clause-others c = λ n other.
    c.in_ok-put-in-None.ensures.others n
    (ap (λ (m : Name). same_name m n) c.name-name.ensures ∙ other)
    ∙ ap (λ (m : BTreeMap Name KeptAs). get name_cmp m n) c.get_mut.follows.holds-at-none
