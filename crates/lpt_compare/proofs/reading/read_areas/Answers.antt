-- An area that isn't read ends it; one that is read goes to the front.
use Rattle.std.proofs.Common.{◌≡◌, ◌∙◌, ap, sym, rules, arith, suc, ◌+◌, ◌-◌, List, [], ◌∷◌, ◌++◌, Some, None}
use Rattle.lpt_memory.specs.Fields.{all_areas}
use Rattle.lpt_memory.proofs.LoopLemmas.{with_front, all_areas-next, all_areas-none}
use Rattle.lpt_compare.specs.declared.checked.Checked.{Checked}
use Rattle.lpt_compare.specs.Checks.{one_area}
use Rattle.lpt_compare.proofs.reading.read_areas.Goals as goal

pub returns-in_default : goal.returns-in_default
returns-in_default c =
    let n = c.args.count - c.loop.counter in
    let m = c.args.count - (c.loop.counter + 1) in
    let one_more : n ≡ suc m = omega arith in
    let none : one_area c.loop.rest.now ≡ None = search rules in
    sym (all_areas-none one_area c.loop.areas.items n m c.loop.rest.now one_more none)
    ∙ c.loop.invariant

pub loop-preserved : goal.loop-preserved
loop-preserved c =
    let n = c.args.count - c.loop.counter in
    let m = c.args.count - (c.loop.counter + 1) in
    let one_more : n ≡ suc m = omega arith in
    let some : one_area c.loop.rest.now ≡ Some (c.in-Some.area, c.in-Some.behind.now) =
    search rules in
    let pushed : c.push.new.self.items ≡ c.loop.areas.items ++ c.in-Some.area ∷ [] = search rules in
    ap (λ (xs : List Checked). with_front xs (all_areas one_area m c.in-Some.behind.now)) pushed
    ∙ sym (all_areas-next one_area c.loop.areas.items n m c.loop.rest.now c.in-Some.behind.now
    c.in-Some.area one_more some)
    ∙ c.loop.invariant
