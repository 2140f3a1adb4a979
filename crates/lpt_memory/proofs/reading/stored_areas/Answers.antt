-- An area that isn't read ends it; one that is read goes to the front.
use Rattle.std.proofs.Common.{◌≡◌, ◌∙◌, ap, sym, subst, rules, arith, ℕ, suc, ◌+◌, ◌-◌, List, [], ◌∷◌, ◌++◌, take, drop, length, map, Some, None}
use Rattle.std.proofs.lemmas.Grind.{common_steps}
use Rattle.std.proofs.lemmas.List.{append-nil, nil_from_length, take_rest}
use Rattle.lpt_memory.specs.Requests.{LoadArea, front_load_area}
use Rattle.lpt_memory.specs.Fields.{all_areas}
use Rattle.lpt_memory.specs.Seen.{load_area, AreWithin}
use Rattle.lpt_memory.proofs.LoopLemmas.{with_front, all_areas-next, all_areas-none}
use Rattle.lpt_memory.proofs.PlaceLemmas.{AreWithin-more}
use Rattle.lpt_memory.proofs.reading.stored_areas.Goals as goal

pub returns-in_default-clause-value : goal.returns-in_default-clause-value
returns-in_default-clause-value c =
    let n = c.args.count - c.loop.counter in
    let m = c.args.count - (c.loop.counter + 1) in
    let body = c.args.body.now in
    let one_more : n ≡ suc m = omega arith in
    let none : front_load_area (drop c.loop.at body) ≡ None = search rules in
    sym (all_areas-none front_load_area
    (map (load_area body) c.loop.areas.items) n m (drop c.loop.at body) one_more none)
    ∙ c.loop.invariant.read

pub returns-clause-value : goal.returns-clause-value
returns-clause-value c =
    let n = c.args.count - c.loop.counter in
    let body = c.args.body.now in
    let front = map (load_area body) c.loop.areas.items in
    let none_left : n ≡ 0 = omega arith in
    let left = take (length body - c.loop.at) (drop c.loop.at body) in
    let nothing_left : drop c.loop.at body ≡ [] =
    sym (take_rest body c.loop.at) ∙ nil_from_length left (search rules)
    in
    ap Some (sym (append-nil front))
    ∙ ap (λ (xs : List ℕ). with_front front (all_areas front_load_area 0 xs)) (sym nothing_left)
    ∙ ap (λ (k : ℕ). with_front front (all_areas front_load_area k (drop c.loop.at body)))
    (sym none_left)
    ∙ c.loop.invariant.read

pub loop-preserved : goal.loop-preserved
loop-preserved c =
    let n = c.args.count - c.loop.counter in
    let m = c.args.count - (c.loop.counter + 1) in
    let body = c.args.body.now in
    let one_more : n ≡ suc m = omega arith in
    let a = c.in-Some.area in
    let x = load_area body a in
    let behind = drop c.in-Some.behind body in
    let some : front_load_area (drop c.loop.at body) ≡ Some (x, behind) = search rules in
    let pushed : c.push.new.self.items ≡ c.loop.areas.items ++ a ∷ [] = search rules in
    let mapped : map (load_area body) c.push.new.self.items
    ≡ map (load_area body) c.loop.areas.items ++ x ∷ [] =
    grind (arith, common_steps) in
    record {
      at = search rules;
      within =
          subst (AreWithin (length body)) (sym pushed)
          (AreWithin-more (length body) c.loop.areas.items a c.loop.invariant.within
          (search rules));
      read =
          ap (λ (xs : List LoadArea). with_front xs (all_areas front_load_area m behind)) mapped
          ∙ sym (all_areas-next front_load_area
          (map (load_area body) c.loop.areas.items) n m (drop c.loop.at body) behind x one_more
          some)
          ∙ c.loop.invariant.read;
    }
