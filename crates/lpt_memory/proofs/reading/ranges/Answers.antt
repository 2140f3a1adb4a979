-- A range that isn't read ends it; one that is read goes to the front.
use Rattle.std.proofs.Common.{◌≡◌, ◌∙◌, ap, sym, rules, arith, suc, ◌+◌, ◌-◌, List, [], ◌∷◌, ◌++◌, Some, None}
use Rattle.lpt_memory.specs.declared.request.AreaRange.{AreaRange}
use Rattle.lpt_memory.specs.Requests.{front_range}
use Rattle.lpt_memory.specs.Fields.{all_areas}
use Rattle.lpt_memory.proofs.LoopLemmas.{with_front, all_areas-next, all_areas-none}
use Rattle.lpt_memory.proofs.reading.ranges.Goals as goal

pub returns-in_default-clause-value : goal.returns-in_default-clause-value
returns-in_default-clause-value c =
    let n = c.args.count - c.loop.counter in
    let m = c.args.count - (c.loop.counter + 1) in
    let one_more : n ≡ suc m = omega arith in
    let none : front_range c.loop.rest.now ≡ None = search rules in
    sym (all_areas-none front_range c.loop.ranges.items n m c.loop.rest.now one_more none)
    ∙ c.loop.invariant.read

pub loop-preserved : goal.loop-preserved
loop-preserved c =
    let n = c.args.count - c.loop.counter in
    let m = c.args.count - (c.loop.counter + 1) in
    let one_more : n ≡ suc m = omega arith in
    let some : front_range c.loop.rest.now ≡ Some (c.in-Some.range, c.in-Some.behind.now) =
    search rules in
    let pushed : c.push.new.self.items ≡ c.loop.ranges.items ++ c.in-Some.range ∷ [] =
    search rules in
    record {
      counted = search rules;
      read =
          ap (λ (xs : List AreaRange). with_front xs (all_areas front_range m c.in-Some.behind.now))
          pushed
          ∙ sym (all_areas-next front_range c.loop.ranges.items n m c.loop.rest.now
          c.in-Some.behind.now c.in-Some.range one_more some)
          ∙ c.loop.invariant.read;
    }
