-- Too many are refused before any is made; each that is described goes behind those before it.
use Rattle.std.proofs.Common.{◌≡◌, ◌<◌, ◌≤◌, [], ◌∷◌, ◌++◌, length, get_or, sym, ◌∙◌, Some, None, arith}
use Rattle.toml.specs.Data.{as_array}
use Rattle.toml.specs.View.{view, items_view, array_view}
use Rattle.lpt_memory.proofs.LoopLemmas.{with_front-none}
use Rattle.lpt_settings.specs.MemoryTables.{memory_of, each_memory}
use Rattle.lpt_settings.proofs.MemoryLemmas.{each_memory-many, each_memory-next, each_memory-none, each_memory-all, listed-read}
use Rattle.lpt_settings.proofs.memories.memories_listed.Goals as goal

pub returns-then-len-gt-MEMORY_LIMIT : goal.returns-then-len-gt-MEMORY_LIMIT
returns-then-len-gt-MEMORY_LIMIT c =
    let seen : Some (array_view c.in-Some.values.now) ≡ as_array (view c.args.value.now) =
    c.in-Some.ensures in
    let many : 16 < length c.in-Some.values.now.items = omega arith in
    sym (rw (← seen) (each_memory-many c.in-Some.values.now.items many))

pub loop-value-init : goal.loop-value-init
loop-value-init c =
    let none : c.in_ok-memories.memories.items ≡ [] = c.in_ok-memories.ensures.items in
    rw none (with_front-none (each_memory (items_view c.deref-value-items.result.now)))

pub loop-value-preserved : goal.loop-value-preserved
loop-value-preserved c =
    let vs = c.deref-value-items.result.now in
    let i = c.loop-value.value-index in
    let d = c.value-item.result in
    let front = c.loop-value.memories.items in
    let m = c.in-Some-2.memory in
    let within : i < length vs = omega arith in
    let is : memory_of (view (get_or vs i d)) ≡ Some m =
    rw (← c.value-item.is) (sym c.in_ok-memory.ensures ∙ c.in-Some-2.is) in
    let pushed : c.push.new.self.items ≡ front ++ m ∷ [] = c.in_ok-push.ensures.items in
    rw pushed (sym (each_memory-next front vs i d m within is) ∙ c.loop-value.invariant)

pub returns-in_default-2 : goal.returns-in_default-2
returns-in_default-2 c =
    let vs = c.deref-value-items.result.now in
    let i = c.loop-value.value-index in
    let d = c.value-item.result in
    let front = c.loop-value.memories.items in
    let within : i < length vs = omega arith in
    let is : memory_of (view (get_or vs i d)) ≡ None =
    rw (← c.value-item.is) (sym c.in_ok-memory.ensures ∙ c.in_default-2.is) in
    let none : each_memory (items_view vs) ≡ None =
    sym c.loop-value.invariant ∙ each_memory-none front vs i d within is in
    listed-read (view c.args.value.now) c.in-Some.values.now.items vs None c.in-Some.ensures
    c.deref-value-items.ensures.value none

pub returns : goal.returns
returns c =
    let vs = c.deref-value-items.result.now in
    let i = c.loop-value.value-index in
    let front = c.loop-value.memories.items in
    let past : length vs ≤ i = omega arith in
    let all : each_memory (items_view vs) ≡ Some front =
    sym c.loop-value.invariant ∙ each_memory-all front vs i past in
    c.if_memories.ensures
    ∙ listed-read (view c.args.value.now) c.in-Some.values.now.items vs (Some front)
    c.in-Some.ensures c.deref-value-items.ensures.value all
