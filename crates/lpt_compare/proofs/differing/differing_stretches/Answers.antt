-- The last stretch grows, or another begins.
use Rattle.std.proofs.Common.{rules, ◌∙◌, ap, sym, subst, refl, ◌+◌, ◌<◌, ◌≤◌, List, [], ◌∷◌, ◌++◌, length}
use Rattle.lpt_compare.specs.declared.differing.Stretch.{Stretch}
use Rattle.lpt_compare.specs.Differences.{AreStretches, IsStretch, block}
use Rattle.lpt_compare.proofs.StretchLemmas.{longer-stretch, next-stretch, block-stretch}
use Rattle.lpt_compare.proofs.WrittenLemmas.{turns-to, turns-back}
use Rattle.lpt_compare.proofs.differing.differing_stretches.Goals as goal

pub loop-place-preserved-then-reaches :
    goal.loop-place-preserved-then-reaches
loop-place-preserved-then-reaches c =
    let old = c.args.old.now in
    let new = c.args.new.now in
    let found = c.in-Some-first_differing.ensures in
    let is = c.block_of-block.ensures in
    let near : (block c.args.align (length old) c.in-Some-first_differing.place).from
    ≤ c.loop-place.last.end + c.args.gap
    = subst (λ (s : Stretch). s.from ≤ c.loop-place.last.end + c.args.gap) is (search rules) in
    record {
      last = subst (λ (s : Stretch). IsStretch old new c.args.gap c.args.align
          (record { from = c.loop-place.last.from; end = s.end })) (sym is)
          (longer-stretch old new c.args.gap c.args.align c.requires.align c.loop-place.last
          c.in-Some-first_differing.place c.loop-place.invariant.last found.1 found.0 near);
      told = c.loop-place.invariant.told;
    }

pub loop-place-preserved : goal.loop-place-preserved
loop-place-preserved c =
    let old = c.args.old.now in
    let new = c.args.new.now in
    let found = c.in-Some-first_differing.ensures in
    let place = c.in-Some-first_differing.place in
    let is = c.block_of-block.ensures in
    let was = c.loop-place.last in
    let so_far = c.loop-place.stretches.items in
    let kept = c.loop-place.invariant in
    let far : was.end + c.args.gap < (block c.args.align (length old) place).from
    = subst (λ (s : Stretch). was.end + c.args.gap < s.from) is (search rules) in
    record {
      last = subst (IsStretch old new c.args.gap c.args.align) (sym is)
          (block-stretch old new c.args.gap c.args.align c.requires.align place found.1);
      told = λ more s from next rest.
          subst
          (λ (items : List Stretch).
          AreStretches old new c.args.gap c.args.align 0 0 (items ++ s ∷ more))
          (sym c.in_ok-push.ensures.items)
          (next-stretch old new c.args.gap c.args.align c.requires.align so_far more was s place
          kept.last kept.told found.2 far (from ∙ ap (λ (b : Stretch). b.from) is) next rest);
    }

-- what was found so far, with the last stretch, is all
pub returns-clause-patch : goal.returns-clause-patch
returns-clause-patch c =
    let was = c.loop-place.invariant in
    turns-to c.args.old.now c.args.new.now c.args.gap c.args.align c.push-2.new.self.items
    c.requires.size
    (subst (AreStretches c.args.old.now c.args.new.now c.args.gap c.args.align 0 0)
    (sym c.in_ok-push-2.ensures.items)
    (was.told [] c.loop-place.last refl was.last c.in_default-first_differing.ensures))

pub returns-clause-undo : goal.returns-clause-undo
returns-clause-undo c =
    let was = c.loop-place.invariant in
    turns-back c.args.old.now c.args.new.now c.args.gap c.args.align c.push-2.new.self.items
    c.requires.size
    (subst (AreStretches c.args.old.now c.args.new.now c.args.gap c.args.align 0 0)
    (sym c.in_ok-push-2.ensures.items)
    (was.told [] c.loop-place.last refl was.last c.in_default-first_differing.ensures))
