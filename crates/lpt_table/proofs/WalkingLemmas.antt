-- The nearest name of places is that of an open reception, and the first place is due first.
use Rattle.std.specs.Prelude.{◌≡◌, ℕ, ◌+◌, Bool, true, false, ◌&&◌, ◌||◌, cond, nat_le, nat_lt, if◌then◌else◌, T, List, [], ◌∷◌, Option, Some, None, is_some, refl}
use Rattle.std.specs.FinMap as maps
use Rattle.std.specs.FinMap.Entries.{find}
use Rattle.std.specs.Option.{option_map}
use Rattle.std.specs.Ordering.{eq_by_cmp}
use Rattle.std.proofs.Common.{sym, ◌∙◌, ap, subst, arith, suc, ◌-◌, ◌<◌, ◌≤◌, length, drop, get_or}
use Rattle.std.proofs.Math.Seq.{drop-cons}
use Rattle.std.proofs.lemmas.Bool.{true≢false}
use Rattle.std.proofs.lemmas.Bool.Decides.{nat_tests}
use Rattle.slab.specs.Slab.{Slab}
use Rattle.lpt_packet.proofs.NameLemmas.{name_before-chain, name_before-refl, name_tied, same_name-refl, same_name-true}
use Rattle.lpt_packet.specs.Names.{Name, name_before, name_cmp, same_name}
use Rattle.lpt_reception.specs.Received.{Received}
use Rattle.lpt_table.specs.Deadlines.{due_of, if_overdue, sooner, soonest}
use Rattle.lpt_table.specs.EntriesOf.{entry_at, map_of}
use Rattle.lpt_table.specs.Places.{by_moment, by_name, first_overdue, when_cmp}
use Rattle.lpt_table.specs.Tables.{TableEntry, TableState}
use Rattle.lpt_table.specs.Walking.{first_last, has_come, is_behind, is_nearer, least_last, lesser, nearer, nearest, next_due, IsNext, IsNextName}
use Rattle.lpt_table.specs.declared.places.DuePlace.{DuePlace}
use Rattle.lpt_table.proofs.FirstLemmas.{first_overdue-is}
use Rattle.lpt_table.proofs.ListingLemmas.{get-map_of}
use Rattle.lpt_table.proofs.SpotLemmas.{none}

-- ---- one name more

-- one of two tests passes
either : (a b : Bool) (P : Type 0) → (a ≡ true → P) → (b ≡ true → P) → (a || b) ≡ true → P
either true b P f g h = f refl
either false b P f g h = g h

-- a test passes where one of two does
second : (a b : Bool) → b ≡ true → (a || b) ≡ true
second true b h = refl
second false b h = h

first : (a b : Bool) → a ≡ true → (a || b) ≡ true
first true b h = refl
first false b h = absurd (true≢false (sym h))

module _ (after : Option Name) (x : Name) (test : Name → Bool) where
  abbrev more : Name → Bool
  more q = same_name q x || test q

  -- the name itself passes
  itself : more x ≡ true
  itself = first (same_name x x) (test x) (same_name-refl x)

  -- a name that isn't behind changes nothing
  stays : (r : Option Name) → is_behind after x ≡ false → IsNext test after r → IsNext more after r
  stays None out h =
      λ q is. either (same_name q x) (test q) (is_behind after q ≡ false)
      (λ same. ap (is_behind after) (same_name-true q x same) ∙ out) (h q) is
  stays (Some n) out h = record {
    passes = second (same_name n x) (test n) h.passes;
    behind = h.behind;
    least = λ q is up. either (same_name q x) (test q) (name_before q n ≡ false)
        (λ same.
        let here = ap (is_behind after) (same_name-true q x same) ∙ out in
        absurd (true≢false (sym up ∙ here)))
        (λ t. h.least q t up) is;
  }

  -- one that is behind is taken where none was found, or a later one
  joins : (r : Option Name)
      → is_behind after x ≡ true
      → IsNext test after r
      → IsNext more after (if is_nearer x r then Some x else r)
  joins None up h = record {
    passes = itself;
    behind = up;
    least = λ q is behind. either (same_name q x) (test q) (name_before q x ≡ false)
        (λ same. ap (λ n. name_before n x) (same_name-true q x same) ∙ name_before-refl x)
        (λ t. absurd (true≢false (sym behind ∙ h q t))) is;
  }
  joins (Some n) up h =
      elim (name_before x n) as (λ b. name_before x n ≡ b
      → IsNext more after (if b then Some x else Some n)) [
        | true ↦ λ e. record {
          passes = itself;
          behind = up;
          least = λ q is behind. either (same_name q x) (test q) (name_before q x ≡ false)
              (λ same. ap (λ n. name_before n x) (same_name-true q x same) ∙ name_before-refl x)
              (λ t. name_before-chain x n q e (h.least q t behind)) is;
        }
        | false ↦ λ e. record {
          passes = second (same_name n x) (test n) h.passes;
          behind = h.behind;
          least = λ q is behind. either (same_name q x) (test q) (name_before q n ≡ false)
              (λ same. ap (λ m. name_before m n) (same_name-true q x same) ∙ e)
              (λ t. h.least q t behind) is;
        }
      ] refl

  one_more : (r : Option Name)
      → IsNext test after r
      → IsNext more after (if is_behind after x && is_nearer x r then Some x else r)
  one_more r h =
      elim (is_behind after x) as (λ b. is_behind after x ≡ b
      → IsNext more after (if b && is_nearer x r then Some x else r)) [
        | true ↦ λ e. joins r e h
        | false ↦ λ e. stays r e h
      ] refl

-- ---- the places

-- whether a place has this name
abbrev stands : List DuePlace → Name → Bool
stands [] q = false
stands (x ∷ xs) q = same_name q x.name || stands xs q

nearest-is : (after : Option Name) (xs : List DuePlace)
    → IsNext (stands xs) after (nearest after xs)
nearest-is after [] = λ q h. absurd (true≢false (sym h))
nearest-is after (x ∷ xs) =
    one_more after x.name (stands xs) (nearest after xs) (nearest-is after xs)

-- one place more at the front
pub nearest-step : (after : Option Name) (xs : List DuePlace) (at : ℕ)
    → 0 < at
    → at ≤ length xs
    → nearest after (drop (at - 1) xs)
    ≡ nearer after (get_or xs (at - 1) none).name (nearest after (drop at xs))
nearest-step after xs at some within =
    let next : suc (at - 1) ≡ at = omega arith in
    ap (nearest after) (drop-cons xs (at - 1) none (omega arith))
    ∙ ap (λ n. nearer after (get_or xs (at - 1) none).name (nearest after (drop n xs))) next

found-stands : (xs : List DuePlace) (q : Name) → is_some (find name_cmp q (by_name xs))
    ≡ stands xs q
found-stands [] q = refl
found-stands (x ∷ xs) q =
    ap (λ b. is_some (cond b (Some x) (find name_cmp q (by_name xs)))) (name_tied q x.name)
    ∙ go (same_name q x.name) (found-stands xs q) where
      go : (b : Bool)
          → is_some (find name_cmp q (by_name xs)) ≡ stands xs q
          → is_some (cond b (Some x) (find name_cmp q (by_name xs))) ≡ (b || stands xs q)
      go true h = refl
      go false h = h

open-stands : (s : Slab Received) (xs : List DuePlace) (q : Name)
    → is_some (maps.get (map_of s xs) q) ≡ stands xs q
open-stands s xs q =
    ap is_some (get-map_of s xs q) ∙ mapped (find name_cmp q (by_name xs)) ∙ found-stands xs q where
      mapped : (r : Option DuePlace) → is_some (option_map (entry_at s) r) ≡ is_some r
      mapped None = refl
      mapped (Some y) = refl

-- the nearest name is the least of an open reception behind another
pub nearest-open : (after : Option Name) (s : Slab Received) (xs : List DuePlace)
    → IsNext (λ q. is_some (maps.get (map_of s xs) q)) after (nearest after xs)
nearest-open after s xs =
    subst (λ (test : Name → Bool). IsNext test after (nearest after xs))
    (λ i. λ q. sym (open-stands s xs q) i) (nearest-is after xs)

-- ---- the first place

first_comes : (timeout now : ℕ) (xs : List DuePlace)
    → is_some (first_overdue timeout now xs)
    ≡ has_come (option_map (λ last. last + timeout) (first_last xs)) now
first_comes timeout now [] = refl
first_comes timeout now (x ∷ xs) = go (nat_le (x.last + timeout) now) where
  go : (b : Bool) → is_some (if b then Some x.name else None) ≡ b
  go true = refl
  go false = refl

-- a reception is overdue once the first place's is
first-due : (timeout now : ℕ) (s : Slab Received) (xs : List DuePlace)
    → T (maps.is_sorted when_cmp (by_moment xs))
    → is_some (option_map (λ (b : Name × ℕ). b.0)
    (soonest timeout now (maps.entries (map_of s xs))))
    ≡ has_come (option_map (λ last. last + timeout) (first_last xs)) now
first-due timeout now s xs up =
    ap is_some (sym (first_overdue-is timeout now s xs up)) ∙ first_comes timeout now xs

-- ---- the least last tick

sooner-some : (a b : Option (Name × ℕ)) → is_some (sooner a b) ≡ (is_some a || is_some b)
sooner-some None b = refl
sooner-some (Some a) None = refl
sooner-some (Some a) (Some b) = go (nat_lt b.1 a.1) where
  go : (t : Bool) → is_some (if t then Some b else Some a) ≡ true
  go true = refl
  go false = refl

overdue-some : (timeout now : ℕ) (e : Name × TableEntry)
    → is_some (if_overdue timeout now e) ≡ nat_le (e.1.last + timeout) now
overdue-some timeout now e = go (nat_le (e.1.last + timeout) now) where
  go : (t : Bool) → is_some {T = Name × ℕ} (if t then Some (e.0, e.1.last) else None) ≡ t
  go true = refl
  go false = refl

or-false : (a : Bool) → (a || false) ≡ a
or-false true = refl
or-false false = refl

lesser-comes : (a timeout now : ℕ) (r : Option ℕ)
    → nat_le (lesser a r + timeout) now
    ≡ (nat_le (a + timeout) now || has_come (option_map (λ last. last + timeout) r) now)
lesser-comes a timeout now None = sym (or-false (nat_le (a + timeout) now))
lesser-comes a timeout now (Some b) = grind (arith, nat_tests)

-- of receptions one is overdue once the one with the least last tick is
least-comes : (timeout now : ℕ) (es : List (Name × TableEntry))
    → is_some (soonest timeout now es)
    ≡ has_come (option_map (λ last. last + timeout) (least_last es)) now
least-comes timeout now [] = refl
least-comes timeout now (e ∷ es) =
    sooner-some (if_overdue timeout now e) (soonest timeout now es)
    ∙ (λ i. overdue-some timeout now e i || least-comes timeout now es i)
    ∙ sym (lesser-comes e.1.last timeout now (least_last es))

named-some : (r : Option (Name × ℕ)) → is_some (option_map (λ (b : Name × ℕ). b.0) r) ≡ is_some r
named-some None = refl
named-some (Some b) = refl

-- a reception is due once the tick has come at which the next one is
pub due-comes : (t : TableState) (now : ℕ) → is_some (due_of t now) ≡ has_come (next_due t) now
due-comes t now =
    named-some (soonest t.timeout now (maps.entries t.entries))
    ∙ least-comes t.timeout now (maps.entries t.entries)

comes-alone : (a b : Option ℕ)
    → ((now : ℕ) → has_come (option_map (λ last. last + 0) a) now
    ≡ has_come (option_map (λ last. last + 0) b) now)
    → a ≡ b
comes-alone None None h = refl
comes-alone None (Some b) h = absurd (let e = h (b + 0) in grind (arith, nat_tests))
comes-alone (Some a) None h = absurd (let e = h (a + 0) in grind (arith, nat_tests))
comes-alone (Some a) (Some b) h =
    let e = h (a + 0) in
    let f = h (b + 0) in
    let same : a ≡ b = grind (arith, nat_tests) in
    ap Some same

-- the first place's last tick is the least one
pub first-least : (s : Slab Received) (xs : List DuePlace)
    → T (maps.is_sorted when_cmp (by_moment xs))
    → first_last xs ≡ least_last (maps.entries (map_of s xs))
first-least s xs up =
    comes-alone (first_last xs) (least_last (maps.entries (map_of s xs))) (λ now.
    sym (first-due 0 now s xs up)
    ∙ named-some (soonest 0 now (maps.entries (map_of s xs)))
    ∙ least-comes 0 now (maps.entries (map_of s xs)))
