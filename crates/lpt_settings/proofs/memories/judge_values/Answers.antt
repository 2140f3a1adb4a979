-- The values are judged one after the other, each with those behind it.
use Rattle.std.proofs.Common.{◌≡◌, ◌∙◌, ◌+◌, ◌<◌, ◌≤◌, ◌&&◌, Bool, true, false, not, length, drop, get_or, replicate, Some, sym, ap, arith}
use Rattle.std.proofs.lemmas.Grind.{common_steps}
use Rattle.toml.specs.View.{view, items_view}
use Rattle.lpt_settings.specs.MemoryTables.{memory_of, each_memory, has_id}
use Rattle.lpt_settings.proofs.JudgeLemmas.{distinct, each_memory-counted, distinct-next, distinct-end, has_id-behind}
use Rattle.lpt_settings.proofs.memories.judge_values.Goals as goal

-- too many, or none
pub returns-then-not-is_count : goal.returns-then-not-is_count
returns-then-not-is_count c =
    let few : c.is_count.result ≡ false = grind (arith, common_steps) in
    sym (each_memory-counted c.args.values.now false (sym c.is_count.ensures ∙ few))

-- an identifier that comes again
pub returns-then-has_id : goal.returns-then-has_id
returns-then-has_id c =
    let vs = c.args.values.now in
    let i = c.loop-place.place in
    let d = c.index-values-place.result in
    let m = c.in-Ok.memory in
    let more = drop (i + 1) vs in
    let within : i < length vs = omega arith in
    let is : memory_of (view (get_or vs i d)) ≡ Some (m.id, replicate m.size m.fill) =
    rw (← c.index-values-place.is) (sym c.in-Ok.ensures.value) in
    let next =
    distinct-next vs i d m.id m.size m.fill within is c.in-Ok.ensures.least c.in-Ok.ensures.greatest
    in
    let twice : has_id m.id more ≡ true =
    sym (has_id-behind m.id vs (i + 1) c.has_id.result c.has_id.ensures) ∙ c.if-has_id.true in
    let few : c.is_count.result ≡ true = grind (arith, common_steps) in
    sym (each_memory-counted vs true (sym c.is_count.ensures ∙ few)
    ∙ sym c.loop-place.invariant
    ∙ next
    ∙ ap (λ (b : Bool). not b && distinct (each_memory (items_view more))) twice)

-- one that doesn't
pub loop-place-preserved : goal.loop-place-preserved
loop-place-preserved c =
    let vs = c.args.values.now in
    let i = c.loop-place.place in
    let d = c.index-values-place.result in
    let m = c.in-Ok.memory in
    let more = drop (i + 1) vs in
    let within : i < length vs = omega arith in
    let is : memory_of (view (get_or vs i d)) ≡ Some (m.id, replicate m.size m.fill) =
    rw (← c.index-values-place.is) (sym c.in-Ok.ensures.value) in
    let next =
    distinct-next vs i d m.id m.size m.fill within is c.in-Ok.ensures.least c.in-Ok.ensures.greatest
    in
    let other : has_id m.id more ≡ false =
    sym (has_id-behind m.id vs (i + 1) c.has_id.result c.has_id.ensures) ∙ c.if-has_id.false in
    sym (next ∙ ap (λ (b : Bool). not b && distinct (each_memory (items_view more))) other)
    ∙ c.loop-place.invariant

-- no more values
pub returns : goal.returns
returns c =
    let vs = c.args.values.now in
    let i = c.loop-place.place in
    let past : length vs ≤ i = omega arith in
    let few : c.is_count.result ≡ true = grind (arith, common_steps) in
    sym (each_memory-counted vs true (sym c.is_count.ensures ∙ few)
    ∙ sym c.loop-place.invariant
    ∙ distinct-end vs i past)
