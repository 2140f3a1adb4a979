-- The numbers that a link keeps are its index after each call, and tell what it holds.
use Rattle.std.proofs.Common.{◌≡◌, ◌∙◌, refl, ap, sym, ℕ, ◌+◌, ◌≤◌, Bool, true, false, cond, ◌&&◌, ◌||◌, nat_lt, Option, None, Some, IfSome, is_some, List, [], ◌∷◌, length, arith}
use Rattle.std.specs.List.{list_any, count_by}
use Rattle.std.specs.Option.{option_map_or}
use Rattle.std.proofs.lemmas.Bool.{and_from}
use Rattle.std.proofs.lemmas.Bool.Decides.{nat_tests}
use Rattle.std.proofs.lemmas.List.Sums.{sum_by-cons, count_by-le-length}
use Rattle.lpt_events.proofs.LaneLemmas.{same_direction-refl}
use Rattle.lpt_packet.proofs.NameLemmas.{same_name-refl}
use Rattle.lpt_packet.specs.Names.{Name, same_name}
use Rattle.lpt_packet.specs.declared.direction.Direction.{Direction}
use Rattle.lpt_events.specs.Lanes.{same_direction}
use Rattle.lpt_link.specs.Links.{LinkData, is_of, any_held}
use Rattle.lpt_link.specs.Counts.{LinkCounts, counts_in, found_in, one_of, count_of, HasPlace, IsOneMore}
use Rattle.lpt_link.specs.LinksInside.{held_of, IsIndex}
use Rattle.lpt_link.proofs.CountLemmas.{IsMoved}

-- ---- counted or not

any_step : (b r : Bool) (n : ℕ) → r ≡ nat_lt 0 n → (b || r) ≡ nat_lt 0 (cond b 1 0 + n)
any_step true r n h = grind (arith, nat_tests)
any_step false r n h =
    let same : n ≡ 0 + n = omega arith in
    h ∙ ap (nat_lt 0) same

-- some passes exactly where their count isn't 0
any_counted : {X : Type 0} (p : X → Bool) (xs : List X) → list_any p xs ≡ nat_lt 0 (count_by p xs)
any_counted p [] = refl
any_counted p (x ∷ xs) =
    any_step (p x) (list_any p xs) (count_by p xs) (any_counted p xs)
    ∙ ap (nat_lt 0) (sym (sum_by-cons (λ y. cond (p y) 1 0) x xs))

-- some held packet is a part of a transaction exactly where the number isn't 0
pub held_counted : (d : LinkData) (direction : Direction) (name : Name)
    → any_held d direction name ≡ nat_lt 0 (held_of d direction name)
held_counted d direction name = any_counted (λ p. p.held && is_of direction name p) d.packets

-- there are no more than packets
pub held_few : (d : LinkData) (direction : Direction) (name : Name)
    → held_of d direction name ≤ length d.packets
held_few d direction name = count_by-le-length (λ p. p.held && is_of direction name p) d.packets

-- ---- the index

-- numbers that are an index are one again, where both are moved
pub index_more : (goes : Direction) (tag : Option Name) (old new : LinkCounts) (d after : LinkData)
    → IsIndex old d
    → IsOneMore goes tag old new
    → IsMoved goes tag d after
    → IsIndex new after
index_more goes tag old new d after index more moved direction name =
    more direction name
    ∙ ap (λ (n : ℕ). n + one_of goes tag direction name) (index direction name)
    ∙ sym (moved direction name)

equal_rest : (a b c d e : ℕ) → a ≡ b + e → a ≡ c → c ≡ d + e → b ≡ d
equal_rest a b c d e p q r = omega arith

pub index_less : (goes : Direction) (tag : Option Name) (old new : LinkCounts) (d after : LinkData)
    → IsIndex old d
    → IsOneMore goes tag new old
    → IsMoved goes tag after d
    → IsIndex new after
index_less goes tag old new d after index more moved direction name =
    equal_rest (count_of old direction name) (count_of new direction name)
    (held_of d direction name)
    (held_of after direction name) (one_of goes tag direction name)
    (more direction name) (index direction name) (moved direction name)

-- a number that there is, less what it is moved by
pub index_room : (counts : LinkCounts) (d after : LinkData)
    (goes : Direction) (tag : Option Name) (name : Name)
    → IsIndex counts d
    → IsMoved goes tag after d
    → one_of goes tag goes name ≤ count_of counts goes name
index_room counts d after goes tag name index moved =
    omega (arith, index goes name, moved goes name)

one_itself : (goes : Direction) (name : Name) → one_of goes (Some name) goes name ≡ 1
one_itself goes name =
    ap (λ (b : Bool). cond b 1 0)
    (and_from (same_direction goes goes) (same_name name name)
    (same_direction-refl goes) (same_name-refl name))

placed : (o : Option ℕ) → 1 ≤ option_map_or (λ n. n) o 0 → is_some o ≡ true
placed None h = absurd (omega (arith, h))
placed (Some n) h = refl

-- a transaction of which there is one has a place
pub index_place : (counts : LinkCounts) (d after : LinkData) (goes : Direction) (tag : Option Name)
    → IsIndex counts d
    → IsMoved goes tag after d
    → IfSome tag (HasPlace counts goes)
index_place counts d after goes None index moved = tt
index_place counts d after goes (Some name) index moved =
    let room = index_room counts d after goes (Some name) name index moved in
    let one = one_itself goes name in
    placed (found_in (counts_in counts goes) name) (omega (arith, room, one))
