-- The last gap that begins at the address or in front of it tells.
use Rattle.std.proofs.Common.{◌∙◌, ◌+◌, ◌<◌, refl, sym, arith}
use Rattle.lpt_extract.proofs.EntryLemmas.{last_has, none_in}
use Rattle.lpt_extract.proofs.clashes.has_gap.Goals as goal

pub returns-in_default : goal.returns-in_default
returns-in_default c = λ up.
    sym (none_in (c.args.place + 1) c.args.place c.args.gaps.now.entries refl
    (sym (c.range.ensures.between tt) ∙ c.in_default.ensures.steps.0))

pub returns : goal.returns
returns c = λ up.
    let f = c.in-Some.field-0-0.now in
    let l = c.in-Some.last.now in
    let last = c.in-Some.ensures.steps in
    let low = (c.range.ensures.in_range tt).3 (f, l) c.next_back.new.self last in
    let less : f < c.args.place + 1 = grind (arith, low.0.1) in
    sym (last_has (c.args.place + 1) f l less c.args.place c.args.gaps.now.entries
    c.next_back.new.self refl up (sym (c.range.ensures.between tt) ∙ last))
