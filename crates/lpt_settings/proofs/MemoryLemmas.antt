-- The memories that a list describes, and the default.
use Rattle.std.proofs.Common.{◌≡◌, ◌∙◌, ℕ, suc, ◌+◌, ◌<◌, ◌≤◌, true, List, [], ◌∷◌, ◌++◌, length, drop, get_or, Option, Some, None, refl, sym, ap, arith, append-nil}
use Rattle.std.proofs.lemmas.Bool.Decides.{nat_tests}
use Rattle.std.proofs.lemmas.List.{drop_all}
use Rattle.toml.specs.declared.value.Value.{Value}
use Rattle.toml.specs.Data.{Data, as_array}
use Rattle.toml.specs.View.{view, items_view}
use Rattle.toml.proofs.Views.{items_view-drop}
use Rattle.lpt_memory.specs.Fields.{◌>>=◌}
use Rattle.lpt_memory.specs.Memories.{Contents, are_memories}
use Rattle.lpt_memory.proofs.LoopLemmas.{with_front, with_front-more}
use Rattle.lpt_settings.specs.MemoryTables.{memory_of, each_memory, if_memories, memories_listed, default_memories}

-- ---- how many there are

length-first : (a : Option (ℕ × List ℕ)) (b : Option Contents) (n : ℕ) (ms : Contents)
    → ((others : Contents) → b ≡ Some others → length others ≡ n)
    → (a >>= λ first. b >>= λ others. Some (first ∷ others)) ≡ Some ms
    → length ms ≡ suc n
length-first None b n ms rest e = absurd cc
length-first (Some m) None n ms rest e = absurd cc
length-first (Some m) (Some others) n ms rest e =
    let same : m ∷ others ≡ ms = cc in
    omega (arith, sym (ap length same), rest others refl)

-- each item gives one memory
pub length-each_memory : (vs : List Value) (ms : Contents)
    → each_memory (items_view vs) ≡ Some ms
    → length ms ≡ length vs
length-each_memory [] ms e = let same : [] ≡ ms = cc in sym (ap length same)
length-each_memory (v ∷ vs) ms e =
    length-first (memory_of (view v)) (each_memory (items_view vs)) (length vs) ms
    (length-each_memory vs) e

if_memories-many : (ms : Contents) → 16 < length ms → if_memories ms ≡ None
if_memories-many ms many = grind (arith, nat_tests)

none_of_many : (o : Option Contents) (n : ℕ)
    → ((ms : Contents) → o ≡ Some ms → length ms ≡ n)
    → 16 < n
    → (o >>= if_memories) ≡ None
none_of_many None n has many = refl
none_of_many (Some ms) n has many =
    let long : length ms ≡ n = has ms refl in if_memories-many ms (omega arith)

-- more than 16 items are no memories
pub each_memory-many : (vs : List Value)
    → 16 < length vs
    → (each_memory (items_view vs) >>= if_memories) ≡ None
each_memory-many vs many =
    none_of_many (each_memory (items_view vs)) (length vs) (length-each_memory vs) many

-- ---- the memories so far

-- a memory that is described goes behind those before it
pub each_memory-next : (front : Contents) (vs : List Value) (i : ℕ) (d : Value) (m : ℕ × List ℕ)
    → i < length vs
    → memory_of (view (get_or vs i d)) ≡ Some m
    → with_front front (each_memory (items_view (drop i vs)))
    ≡ with_front (front ++ m ∷ []) (each_memory (items_view (drop (i + 1) vs)))
each_memory-next front vs i d m within is =
    let more = each_memory (items_view (drop (i + 1) vs)) in
    ap (λ ds. with_front front (each_memory ds)) (items_view-drop vs i d within)
    ∙ ap (λ r. with_front front (r >>= λ first. more >>= λ others. Some (first ∷ others))) is
    ∙ with_front-more front m more

-- where one isn't described, none are
pub each_memory-none : (front : Contents) (vs : List Value) (i : ℕ) (d : Value)
    → i < length vs
    → memory_of (view (get_or vs i d)) ≡ None
    → with_front front (each_memory (items_view (drop i vs))) ≡ None
each_memory-none front vs i d within is =
    let more = each_memory (items_view (drop (i + 1) vs)) in
    ap (λ ds. with_front front (each_memory ds)) (items_view-drop vs i d within)
    ∙ ap (λ r. with_front front (r >>= λ first. more >>= λ others. Some (first ∷ others))) is

-- with no more items, they are all that are described
pub each_memory-all : (front : Contents) (vs : List Value) (i : ℕ)
    → length vs ≤ i
    → with_front front (each_memory (items_view (drop i vs))) ≡ Some front
each_memory-all front vs i past =
    let none : drop i vs ≡ [] = drop_all i vs past in
    rw none (ap Some (append-nil front))

-- what was read of the items is what the value lists
pub listed-read : (d : Data) (vs ws : List Value) (read : Option Contents)
    → Some (items_view vs) ≡ as_array d
    → ws ≡ vs
    → each_memory (items_view ws) ≡ read
    → (read >>= if_memories) ≡ memories_listed d
listed-read d vs ws read seen same is =
    ap (λ r. r >>= if_memories) (sym is)
    ∙ ap (λ xs. each_memory (items_view xs) >>= if_memories) same
    ∙ ap (λ o. o >>= each_memory >>= if_memories) seen

-- ---- the default

are_memories-default : are_memories default_memories ≡ true
unfolding default_memories
are_memories-default = refl

-- the default can be memories
pub if_memories-default : if_memories default_memories ≡ Some default_memories
if_memories-default = rw are_memories-default
