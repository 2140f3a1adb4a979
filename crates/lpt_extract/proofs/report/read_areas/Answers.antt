-- An area that isn't read ends it; one that is read goes to the front.
use Rattle.std.proofs.Common.{◌≡◌, ◌∙◌, ap, sym, rules, arith, suc, ◌+◌, ◌-◌, List, [], ◌∷◌, ◌++◌, map, Some, None}
use Rattle.std.proofs.lemmas.List.{map_push}
use Rattle.lpt_memory.specs.Requests.{LoadArea, front_load_area}
use Rattle.lpt_memory.specs.Fields.{all_areas}
use Rattle.lpt_memory.proofs.LoopLemmas.{with_front, all_areas-next, all_areas-none}
use Rattle.lpt_extract.specs.ReportsInside.{load_area}
use Rattle.lpt_extract.proofs.report.read_areas.Goals as goal

pub returns-in_default : goal.returns-in_default
returns-in_default c =
    let n = c.args.count - c.loop.counter in
    let m = c.args.count - (c.loop.counter + 1) in
    let one_more : n ≡ suc m = omega arith in
    let none : front_load_area c.loop.rest.now ≡ None = search rules in
    sym (all_areas-none front_load_area (map load_area c.loop.areas.items) n m c.loop.rest.now one_more none)
    ∙ c.loop.invariant

pub loop-preserved : goal.loop-preserved
loop-preserved c =
    let n = c.args.count - c.loop.counter in
    let m = c.args.count - (c.loop.counter + 1) in
    let one_more : n ≡ suc m = omega arith in
    let a = c.in-Some.area in
    let behind = c.in-Some.behind.now in
    let some : front_load_area c.loop.rest.now ≡ Some (load_area a, behind) = search rules in
    let pushed : c.push.new.self.items ≡ c.loop.areas.items ++ a ∷ [] = search rules in
    ap (λ (xs : List LoadArea). with_front xs (all_areas front_load_area m behind))
    (ap (map load_area) pushed ∙ map_push load_area c.loop.areas.items a)
    ∙ sym (all_areas-next front_load_area (map load_area c.loop.areas.items) n m c.loop.rest.now
    behind (load_area a) one_more some)
    ∙ c.loop.invariant
