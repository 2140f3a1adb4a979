-- The memories that values describe, judged without memory.
use Rattle.std.proofs.Common.{◌≡◌, ◌∙◌, ℕ, ◌+◌, ◌-◌, ◌<◌, ◌≤◌, ◌==◌, ◌&&◌, ◌||◌, Bool, true, false, not, if◌then◌else◌, nat_le, List, [], ◌∷◌, length, length-drop, take, drop, get_or, replicate, Option, Some, None, is_some, option_map, refl, sym, ap, arith}
use Rattle.std.proofs.lemmas.Bool.Decides.{nat_tests}
use Rattle.std.proofs.lemmas.List.{drop_all, take_all, length-replicate}
use Rattle.toml.specs.declared.value.Value.{Value}
use Rattle.toml.specs.View.{view, items_view}
use Rattle.toml.proofs.Views.{items_view-drop}
use Rattle.lpt_memory.specs.Fields.{◌>>=◌}
use Rattle.lpt_memory.specs.Meanings.{size_of}
use Rattle.lpt_memory.specs.Memories.{Contents, are_memories, are_distinct, sizes_of}
use Rattle.lpt_settings.specs.MemoryTables.{memory_of, each_memory, if_memories, memories_of, is_id, has_id}
use Rattle.lpt_events.specs.declared.config.Config.{Config}
use Rattle.lpt_events.specs.declared.turns.Turns.{Turns}
use Rattle.toml.specs.Data.{Members}
use Rattle.lpt_settings.specs.Keys.{has_only}
use Rattle.lpt_settings.specs.Settings.{known_keys, numbers_of, settings_of}
use Rattle.lpt_settings.proofs.MemoryLemmas.{length-each_memory}
use Rattle.lpt_packet.proofs.BoolLemmas.{and_false}

-- whether memories are described, in their ranges and with distinct identifiers
abbrev pub distinct : Option Contents → Bool
distinct None = false
distinct (Some ms) = are_distinct (sizes_of ms)

-- ---- how many there are

count_parts : (n : ℕ) (d b : Bool)
    → (nat_le 1 n && nat_le n 16) ≡ b
    → (nat_le 1 n && nat_le n 16 && d) ≡ (b && d)
count_parts n true true is = grind (arith, nat_tests)
count_parts n true false is = grind (arith, nat_tests)
count_parts n false true is = grind (arith, nat_tests)
count_parts n false false is = grind (arith, nat_tests)

some_if : (b : Bool) (ms : Contents) → is_some (if b then Some ms else None) ≡ b
some_if true ms = refl
some_if false ms = refl

counted : (o : Option Contents) (n : ℕ) (b : Bool)
    → ((ms : Contents) → o ≡ Some ms → length ms ≡ n)
    → (nat_le 1 n && nat_le n 16) ≡ b
    → is_some (o >>= if_memories) ≡ (b && distinct o)
counted None n b has is = sym (and_false b)
counted (Some ms) n b has is =
    let same : length ms ≡ n = has ms refl in
    some_if (are_memories ms) ms
    ∙ count_parts (length ms) (are_distinct (sizes_of ms)) b (rw same is)

-- values describe memories where they are few and what they describe is distinct
pub each_memory-counted : (vs : List Value) (b : Bool)
    → (nat_le 1 (length vs) && nat_le (length vs) 16) ≡ b
    → is_some (each_memory (items_view vs) >>= if_memories)
    ≡ (b && distinct (each_memory (items_view vs)))
each_memory-counted vs b is =
    counted (each_memory (items_view vs)) (length vs) b (length-each_memory vs) is

-- ---- identifiers

held_parts : (b r : Bool) (n : ℕ) (o : Option ℕ)
    → r ≡ is_some o
    → (b || r) ≡ is_some (if b then Some n else o)
held_parts true r n o e = refl
held_parts false r n o e = e

held_join : (id : ℕ) (m : Option (ℕ × List ℕ)) (r : Bool) (others : Option Contents)
    → (ms : Contents)
    → ((more : Contents) → others ≡ Some more → r ≡ is_some (size_of id (sizes_of more)))
    → (m >>= λ first. others >>= λ more. Some (first ∷ more)) ≡ Some ms
    → (is_id id m || r) ≡ is_some (size_of id (sizes_of ms))
held_join id None r others ms rest e = absurd cc
held_join id (Some m) r None ms rest e = absurd cc
held_join id (Some m) r (Some more) ms rest e =
    let same : m ∷ more ≡ ms = cc in
    rw (← same)
    (held_parts (m.0 == id) r (length m.1) (size_of id (sizes_of more)) (rest more refl))

-- an identifier is described where one of the memories has it
has_id-held : (id : ℕ) (vs : List Value) (ms : Contents)
    → each_memory (items_view vs) ≡ Some ms
    → has_id id vs ≡ is_some (size_of id (sizes_of ms))
has_id-held id [] ms e = let same : [] ≡ ms = cc in rw (← same) refl
has_id-held id (v ∷ vs) ms e =
    held_join id (memory_of (view v)) (has_id id vs) (each_memory (items_view vs)) ms
    (has_id-held id vs) e

-- ---- one value after the other

range_parts : (n : ℕ) (x d : Bool)
    → 1 ≤ n
    → n ≤ 1048576
    → (nat_le 1 n && nat_le n 1048576 && not x && d) ≡ (not x && d)
range_parts n true true least greatest = grind (arith, nat_tests)
range_parts n true false least greatest = grind (arith, nat_tests)
range_parts n false true least greatest = grind (arith, nat_tests)
range_parts n false false least greatest = grind (arith, nat_tests)

first_parts : (id size fill : ℕ) (ms : Contents) (h : Bool)
    → 1 ≤ size
    → size ≤ 1048576
    → h ≡ is_some (size_of id (sizes_of ms))
    → are_distinct (sizes_of ((id, replicate size fill) ∷ ms))
    ≡ (not h && are_distinct (sizes_of ms))
first_parts id size fill ms h least greatest held =
    let len : length (replicate size fill) ≡ size = length-replicate size fill in
    rw (held, len)
    (range_parts size (is_some (size_of id (sizes_of ms))) (are_distinct (sizes_of ms)) least greatest)

distinct_join : (m : Option (ℕ × List ℕ)) (id size fill : ℕ) (h : Bool) (others : Option Contents)
    → m ≡ Some (id, replicate size fill)
    → 1 ≤ size
    → size ≤ 1048576
    → ((ms : Contents) → others ≡ Some ms → h ≡ is_some (size_of id (sizes_of ms)))
    → distinct (m >>= λ first. others >>= λ more. Some (first ∷ more)) ≡ (not h && distinct others)
distinct_join m id size fill h None is least greatest held = rw is (sym (and_false (not h)))
distinct_join m id size fill h (Some ms) is least greatest held =
    rw is (first_parts id size fill ms h least greatest (held ms refl))

-- a memory that is described has an identifier that no later one has
pub distinct-next : (vs : List Value) (i : ℕ) (d : Value) (id size fill : ℕ)
    → i < length vs
    → memory_of (view (get_or vs i d)) ≡ Some (id, replicate size fill)
    → 1 ≤ size
    → size ≤ 1048576
    → distinct (each_memory (items_view (drop i vs)))
    ≡ (not (has_id id (drop (i + 1) vs)) && distinct (each_memory (items_view (drop (i + 1) vs))))
distinct-next vs i d id size fill within is least greatest =
    let more = drop (i + 1) vs in
    ap (λ ds. distinct (each_memory ds)) (items_view-drop vs i d within)
    ∙ distinct_join (memory_of (view (get_or vs i d))) id size fill (has_id id more)
    (each_memory (items_view more)) is least greatest (has_id-held id more)

-- with no more values, none comes twice
pub distinct-end : (vs : List Value) (i : ℕ)
    → length vs ≤ i
    → distinct (each_memory (items_view (drop i vs))) ≡ true
distinct-end vs i past = let none : drop i vs ≡ [] = drop_all i vs past in rw none refl

-- a slice from a place to the end has the values behind it
pub has_id-behind : (id : ℕ) (vs : List Value) (n : ℕ) (b : Bool)
    → b ≡ has_id id (take (length vs - n) (drop n vs))
    → b ≡ has_id id (drop n vs)
has_id-behind id vs n b is =
    let few : length (drop n vs) ≤ length vs - n = rw length-drop (omega arith) in
    let all : take (length vs - n) (drop n vs) ≡ drop n vs =
    take_all (length vs - n) (drop n vs) few in
    is ∙ ap (λ (ds : List Value). has_id id ds) all

-- ---- the whole table

abbrev joined : {A B : Type 0} → Bool → Option A → Option B → Option (A × B)
joined known config memories =
    if known then (do
      c ← config
      ms ← memories
      Some (c, ms))
    else None

told_parts : {A B : Type 0} (known : Bool) (config : Option A) (memories : Option B) (c : A)
    → Some c ≡ option_map {T = A × B} (λ s. s.0) (joined known config memories)
    → joined known config memories ≡ option_map (λ ms. (c, ms)) memories
told_parts true (Some x) (Some ms) c e = let same : c ≡ x = cc in rw same refl
told_parts true (Some x) None c e = absurd cc
told_parts true None memories c e = absurd cc
told_parts false config memories c e = absurd cc

-- a table that is judged to have numbers has them with its memories
pub settings_of-judged : (members : Members) (c : Config × Turns)
    → Some c ≡ option_map (λ s. s.0) (settings_of members)
    → settings_of members ≡ option_map (λ ms. (c, ms)) (memories_of members)
settings_of-judged members c e =
    told_parts (has_only known_keys members) (numbers_of members) (memories_of members) c e

-- a table of which no numbers are told has no settings
pub settings_of-refused : {A B : Type 0} (o : Option (A × B))
    → None ≡ option_map (λ s. s.0) o
    → o ≡ None
settings_of-refused None e = refl
settings_of-refused (Some s) e = absurd cc

-- a table of which numbers are told has settings
pub settings_of-some : {A B : Type 0} (o : Option (A × B)) (c : A)
    → Some c ≡ option_map (λ s. s.0) o
    → is_some o ≡ true
settings_of-some None c e = absurd cc
settings_of-some (Some s) c e = refl
