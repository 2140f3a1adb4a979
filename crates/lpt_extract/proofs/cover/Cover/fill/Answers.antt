-- Each that is found is taken away, until none is.
use Rattle.std.proofs.Common.{◌∙◌, ◌<◌, ◌≤◌, sym, subst, arith, IfSome, slice_get}
use Rattle.std.specs.BTreeMap.Range.{IsEntryInRange}
use Rattle.std.specs.Ordering.{nat_cmp}
use Rattle.std.specs.List.{filter}
use Rattle.std.specs.declared.ops.Bound.TheVariants.{Excluded, Included}
use Rattle.lpt_extract.specs.CoversInside.{is_apart}
use Rattle.lpt_extract.proofs.EntryLemmas.{gaps_at, none_left, taken}
use Rattle.lpt_extract.proofs.cover.Cover.fill.Goals as goal

pub loop-gap-preserved : goal.loop-gap-preserved
loop-gap-preserved c =
    let a = c.args.first in
    let b = c.args.end in
    let here = subst (λ r. IfSome (slice_get r 0)
    (IsEntryInRange nat_cmp (Included a) (Excluded b) c.loop-gap.self.gaps))
    c.in-Some.ensures.steps (c.range.ensures.in_range tt).1 in
    let from : a ≤ c.in-Some.gap.now = grind (arith, here.0.0) in
    let below : c.in-Some.gap.now < b = grind (arith, here.0.1) in
    record {
      gaps = (λ i. filter (is_apart a b) (gaps_at (c.remove.ensures.entries i)))
          ∙ taken a b c.in-Some.gap.now c.loop-gap.self.gaps.entries from below
          ∙ c.loop-gap.invariant.gaps;
      end = c.loop-gap.invariant.end;
    }

pub returns-clause-gaps : goal.returns-clause-gaps
returns-clause-gaps c =
    sym (none_left c.args.first c.args.end c.loop-gap.self.gaps.entries
    (sym (c.range.ensures.between tt) ∙ c.in_default.ensures.steps.0))
    ∙ c.loop-gap.invariant.gaps
