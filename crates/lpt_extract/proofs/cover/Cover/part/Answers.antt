-- Only the last gap in front of the address may have it.
use Rattle.std.proofs.Common.{◌∙◌, ◌<◌, ap, sym, arith}
use Rattle.std.specs.BTreeMap.{insert_entry}
use Rattle.std.specs.Ordering.{nat_cmp}
use Rattle.lpt_extract.proofs.EntryLemmas.{gaps_at, is_parted, stays_before, stays_behind}
use Rattle.lpt_extract.proofs.cover.Cover.part.Goals as goal

pub returns-in_default-clause-gaps : goal.returns-in_default-clause-gaps
returns-in_default-clause-gaps c = λ up.
    sym (stays_behind c.args.at c.args.self.now.gaps.entries up
    (sym (c.range.ensures.between tt) ∙ c.in_default.ensures.steps.0))

pub returns-then-last-at-clause-gaps : goal.returns-then-last-at-clause-gaps
returns-then-last-at-clause-gaps c = λ up.
    let last = c.in-Some.ensures.steps in
    let low = (c.range.ensures.in_range tt).3 (c.in-Some.first.now, c.in-Some.last.now)
    c.next_back.new.self last in
    let less : c.in-Some.first.now < c.args.at = grind (arith, low.0.1) in
    sym (stays_before c.args.at c.in-Some.first.now c.in-Some.last.now less
    c.args.self.now.gaps.entries c.next_back.new.self up
    (sym (c.range.ensures.between tt) ∙ last) c.if-last-at.true)

pub returns-clause-gaps : goal.returns-clause-gaps
returns-clause-gaps c = λ up.
    let last = c.in-Some.ensures.steps in
    let low = (c.range.ensures.in_range tt).3 (c.in-Some.first.now, c.in-Some.last.now)
    c.next_back.new.self last in
    let less : c.in-Some.first.now < c.args.at = grind (arith, low.0.1) in
    ap gaps_at (c.in_ok-insert-2.ensures.entries
    ∙ ap (λ es. insert_entry nat_cmp es c.args.at c.in-Some.last.now)
    c.in_ok-insert.ensures.entries)
    ∙ is_parted c.args.at c.in-Some.first.now c.in-Some.last.now less
    c.args.self.now.gaps.entries c.next_back.new.self up
    (sym (c.range.ensures.between tt) ∙ last) c.if-last-at.false
