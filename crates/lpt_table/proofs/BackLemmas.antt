-- Last ticks that are set back: the places stay in order, each reception stays, and the same is
-- due.
use Rattle.std.specs.Prelude.{◌≡◌, ℕ, suc, ◌+◌, ◌-◌, ◌≤◌, ◌<◌, Bool, true, false, ◌&&◌, cond, nat_le, nat_lt, T, IsTrue, All, List, [], ◌∷◌, length, map as mapped, Option, Some, None, refl}
use Prim.Native.Nat.{zero}
use Rattle.std.specs.FinMap as map
use Rattle.std.specs.FinMap.{get-entries, get-from_entries, same_map}
use Rattle.std.specs.FinMap.Entries.{below_all, find, is_sorted}
use Rattle.std.specs.Option.{option_map, option_map_or}
use Rattle.std.specs.Ordering.{eq_by_cmp, is_lt, nat_cmp, ordering_then}
use Rattle.std.specs.Cmp.{nat_cmp_is, ranked}
use Rattle.std.specs.declared.cmp.Ordering.{Ordering}
use Rattle.std.specs.declared.cmp.Ordering.TheVariants.{Less, Equal, Greater}
use Rattle.std.proofs.Common.{sym, ◌∙◌, ap, subst, arith, leb-true}
use Rattle.std.proofs.lemmas.Bool.Decides.{nat_tests}
use Rattle.std.proofs.lemmas.List.{length-map, with_items_is}
use Rattle.std.specs.Prelude.{Vec}
use Rattle.std.specs.Vec.{with_items}
use Rattle.slab.specs.Slab.{Slab}
use Rattle.slab.specs.Slab as slab
use Rattle.lpt_packet.proofs.KeyLemmas.{both, first, second, less}
use Rattle.lpt_packet.proofs.NameLemmas.{name_cmp-IsAntisymmetric, name_cmp_total}
use Rattle.lpt_packet.specs.Names.{Name, name_before, name_cmp}
use Rattle.lpt_reception.specs.Received.{Received}
use Rattle.lpt_table.specs.declared.places.DuePlace.{DuePlace}
use Rattle.lpt_table.specs.Deadlines.{IsDue, IsDueEntry, due_of}
use Rattle.lpt_table.specs.EntriesOf.{IsHeld, IsListed, entry_at, entries_of, map_of}
use Rattle.lpt_table.specs.Places.{AreApart, by_moment, by_name, when_cmp}
use Rattle.lpt_table.specs.SettingBack.{earlier, place_earlier, reaches_back, set_back, table_back}
use Rattle.lpt_table.specs.Tables.{Entries, TableEntry, TableState}
use Rattle.lpt_table.specs.Walking.{due_at, first_last, least_last, lesser}
use Rattle.lpt_table.proofs.DueLemmas.{due_of_is, due_unique}
use Rattle.lpt_table.proofs.ListingLemmas.{get-map_of, inside, len-map_of}
use Rattle.lpt_table.proofs.OrderLemmas.{earlier_tick}
use Rattle.lpt_table.proofs.WalkingLemmas.{first-least}

-- ---- each reception stays

-- what is found where each value was changed
find-mapped : {K X Y : Type 0} (R : K → K → Ordering) (f : X → Y) (q : K) (es : List (K × X))
    → find R q (mapped (λ e. (e.0, f e.1)) es) ≡ option_map f (find R q es)
find-mapped R f q [] = refl
find-mapped {X = X} {Y = Y} R f q (e ∷ es) =
    elim (eq_by_cmp R q e.0) as (λ b.
    cond b (Some (f e.1)) (find R q (mapped (λ e. (e.0, f e.1)) es))
    ≡ option_map f (cond b (Some e.1) (find R q es))) [
      | true ↦ refl
      | false ↦ find-mapped R f q es
    ]

-- a reception that is set back is so many ticks earlier
pub get-set_back : (ticks : ℕ) (m : Entries) (q : Name)
    → map.get (set_back ticks m) q ≡ option_map (earlier ticks) (map.get m q)
unfolding set_back
get-set_back ticks m q =
    get-from_entries name_cmp_total (mapped (λ e. (e.0, earlier ticks e.1)) (map.entries m)) q
    ∙ find-mapped name_cmp (earlier ticks) q (map.entries m)
    ∙ ap (option_map (earlier ticks)) (sym (get-entries m q))

-- ---- places

-- what is found of places that are set back
find-back : (ticks : ℕ) (q : Name) (xs : List DuePlace)
    → find name_cmp q (by_name (mapped (place_earlier ticks) xs))
    ≡ option_map (place_earlier ticks) (find name_cmp q (by_name xs))
find-back ticks q [] = refl
find-back ticks q (x ∷ xs) =
    elim (eq_by_cmp name_cmp q x.name) as (λ b.
    cond b (Some (place_earlier ticks x))
    (find name_cmp q (by_name (mapped (place_earlier ticks) xs)))
    ≡ option_map (place_earlier ticks) (cond b (Some x) (find name_cmp q (by_name xs)))) [
      | true ↦ refl
      | false ↦ find-back ticks q xs
    ]

twice : (ticks : ℕ) (s : Slab Received) (r : Option DuePlace)
    → option_map (entry_at s) (option_map (place_earlier ticks) r)
    ≡ option_map (earlier ticks) (option_map (entry_at s) r)
twice ticks s None = refl
twice ticks s (Some x) = refl

-- the map of places that are set back
pub back-map : (ticks : ℕ) (s : Slab Received) (xs : List DuePlace)
    → map_of s (mapped (place_earlier ticks) xs) ≡ set_back ticks (map_of s xs)
back-map ticks s xs =
    same_map name_cmp_total name_cmp-IsAntisymmetric _ _ (λ q.
    get-map_of s (mapped (place_earlier ticks) xs) q
    ∙ ap (option_map (entry_at s)) (find-back ticks q xs)
    ∙ twice ticks s (find name_cmp q (by_name xs))
    ∙ ap (option_map (earlier ticks)) (sym (get-map_of s xs q))
    ∙ sym (get-set_back ticks (map_of s xs) q))

apart-back : (n : ℕ) (xs : List DuePlace)
    → AreApart name_cmp (by_name xs)
    → AreApart name_cmp (by_name (mapped (place_earlier n) xs))
apart-back n [] h = tt
apart-back n (x ∷ xs) h = (
  find-back n x.name xs ∙ ap (option_map (place_earlier n)) h.0,
  apart-back n xs h.1,
)

-- it has as many receptions
pub back-len : (ticks : ℕ) (s : Slab Received) (xs : List DuePlace)
    → AreApart name_cmp (by_name xs)
    → map.len (map_of s (mapped (place_earlier ticks) xs)) ≡ map.len (map_of s xs)
back-len ticks s xs h =
    len-map_of s (mapped (place_earlier ticks) xs) (apart-back ticks xs h)
    ∙ length-map xs (place_earlier ticks)
    ∙ sym (len-map_of s xs h)

-- ---- the order of places

-- no last tick of these places is below so many
abbrev pub AreLate : ℕ → List DuePlace → Type 0
AreLate n xs = All (λ (x : DuePlace). n ≤ x.last) xs

all-first : (n : ℕ) (x : DuePlace) (xs : List DuePlace) → AreLate n (x ∷ xs) → n ≤ x.last
all-first n x xs g = g 0 x (omega arith)

all-rest : (n : ℕ) (x : DuePlace) (xs : List DuePlace) → AreLate n (x ∷ xs) → AreLate n xs
all-rest n x xs g = λ k d l. g (suc k) d (omega arith)

all-none : (n : ℕ) → AreLate n []
all-none n = λ k d l. absurd (omega arith)

all-more : (n : ℕ) (x : DuePlace) (xs : List DuePlace) → n ≤ x.last → AreLate n xs
    → AreLate n (x ∷ xs)
all-more n x xs p g zero d l = p
all-more n x xs p g (suc k) d l = g k d (omega arith)

-- two ticks that are set back compare as they did
cmp-back : (n a b : ℕ) → n ≤ a → n ≤ b → nat_cmp (a - n) (b - n) ≡ nat_cmp a b
cmp-back n a b f g =
    elim (nat_cmp a b) as (λ r. r ≡ nat_cmp a b → nat_cmp (a - n) (b - n) ≡ r) [
      | Less ↦ λ e. let h : a < b = ranked a b Less e in
          sym (nat_cmp_is (a - n) (b - n) Less (omega arith))
      | Equal ↦ λ e. let h : a ≡ b = ranked a b Equal e in
          sym (nat_cmp_is (a - n) (b - n) Equal (omega arith))
      | Greater ↦ λ e. let h : b < a = ranked a b Greater e in
          sym (nat_cmp_is (a - n) (b - n) Greater (omega arith))
    ] refl

below-back : (n a : ℕ) (name : Name) (xs : List DuePlace)
    → n ≤ a
    → AreLate n xs
    → T (below_all when_cmp (a, name) (by_moment xs))
    → T (below_all when_cmp (a - n, name) (by_moment (mapped (place_earlier n) xs)))
below-back n a name [] f g h = tt
below-back n a name (x ∷ xs) f g h =
    let rest = below_all when_cmp (a, name) (by_moment xs) in
    let here = is_lt (when_cmp (a, name) (x.last, x.name)) in
    both (is_lt (when_cmp (a - n, name) (x.last - n, x.name)))
    (below_all when_cmp (a - n, name) (by_moment (mapped (place_earlier n) xs)))
    (subst (λ r. T (is_lt (ordering_then r (name_cmp name x.name))))
    (sym (cmp-back n a x.last f (all-first n x xs g)))
    (first here rest h))
    (below-back n a name xs f (all-rest n x xs g) (second here rest h))

sorted-back : (n : ℕ) (xs : List DuePlace)
    → AreLate n xs
    → T (is_sorted when_cmp (by_moment xs))
    → T (is_sorted when_cmp (by_moment (mapped (place_earlier n) xs)))
sorted-back n [] g h = tt
sorted-back n (x ∷ xs) g h =
    let below = below_all when_cmp (x.last, x.name) (by_moment xs) in
    let rest = is_sorted when_cmp (by_moment xs) in
    both (below_all when_cmp (x.last - n, x.name) (by_moment (mapped (place_earlier n) xs)))
    (is_sorted when_cmp (by_moment (mapped (place_earlier n) xs)))
    (below-back n x.last x.name xs (all-first n x xs g) (all-rest n x xs g) (first below rest h))
    (sorted-back n xs (all-rest n x xs g) (second below rest h))

-- what stands behind a tick is no earlier
all-behind : (n : ℕ) (m : ℕ × Name) (xs : List DuePlace)
    → n ≤ m.0
    → T (below_all when_cmp m (by_moment xs))
    → AreLate n xs
all-behind n m [] f h = all-none n
all-behind n m (x ∷ xs) f h =
    let rest = below_all when_cmp m (by_moment xs) in
    let here = is_lt (when_cmp m (x.last, x.name)) in
    let up : m.0 ≤ x.last =
    earlier_tick m.0 x.last (name_cmp m.1 x.name) (less _ (first here rest h)) in
    all-more n x xs (omega arith) (all-behind n m xs f (second here rest h))

reaching : (n : ℕ) (xs : List DuePlace)
    → T (is_sorted when_cmp (by_moment xs))
    → option_map_or (λ last. nat_le n last) (first_last xs) true ≡ true
    → AreLate n xs
reaching n [] up h = all-none n
reaching n (x ∷ xs) up h =
    let f : n ≤ x.last = leb-true n x.last h in
    all-more n x xs f
    (all-behind n (x.last, x.name) xs f
    (first (below_all when_cmp (x.last, x.name) (by_moment xs))
    (is_sorted when_cmp (by_moment xs)) up))

-- where the map reaches back, each place does
pub all-reach : (n : ℕ) (s : Slab Received) (xs : List DuePlace)
    → T (is_sorted when_cmp (by_moment xs))
    → reaches_back n (map_of s xs) ≡ true
    → AreLate n xs
all-reach n s xs up h =
    reaching n xs up
    (ap (λ (r : Option ℕ). option_map_or (λ last. nat_le n last) r true) (first-least s xs up) ∙ h)

-- what a list has once these places were written over its own
pub written-back : {Z : Type 0} (v : Vec DuePlace Z) (ws zs : List DuePlace) (n : ℕ)
    → ws ≡ mapped (place_earlier n) zs
    → zs ≡ v.items
    → (with_items v ws).items ≡ mapped (place_earlier n) v.items
written-back v ws zs n f g =
    let is : ws ≡ mapped (place_earlier n) v.items = f ∙ ap (mapped (place_earlier n)) g in
    with_items_is v ws
    (ap length is ∙ length-map v.items (place_earlier n) ∙ sym v.ok.0)
    ∙ is

-- a place that is found among those that are set back was found, and has the key that it had
found-back : (n : ℕ) (q : Name) (xs : List DuePlace) (x : DuePlace)
    → find name_cmp q (by_name (mapped (place_earlier n) xs)) ≡ Some x
    → (y : DuePlace) × ((find name_cmp q (by_name xs) ≡ Some y) × (x.key ≡ y.key))
found-back n q xs x is =
    go (find name_cmp q (by_name xs)) refl where
      go : (r : Option DuePlace)
          → find name_cmp q (by_name xs) ≡ r
          → (y : DuePlace) × ((find name_cmp q (by_name xs) ≡ Some y) × (x.key ≡ y.key))
      go None e =
          absurd (let no : ◌≡◌ {A = Option DuePlace} None (Some x) =
          sym (find-back n q xs ∙ ap (option_map (place_earlier n)) e) ∙ is in cc)
      go (Some y) e =
          let same : ◌≡◌ {A = Option DuePlace} (Some (place_earlier n y)) (Some x) =
          sym (find-back n q xs ∙ ap (option_map (place_earlier n)) e) ∙ is in
          (y, (e, sym (ap (λ (z : DuePlace). z.key) (inside (place_earlier n y) x same))))

-- the list stays sound
pub back-listed : (limit p capacity more n : ℕ) (s : Slab Received) (xs : List DuePlace)
    → IsListed limit p capacity s xs
    → AreLate n xs
    → capacity ≤ more
    → IsListed limit p more s (mapped (place_earlier n) xs)
back-listed limit p capacity more n s xs l g grown = record {
  ordered = sorted-back n xs g l.ordered;
  apart = apart-back n xs l.apart;
  held = λ name x is.
      let w = found-back n name xs x is in
      let h = l.held name w.0 w.1.0 in
      record {
        filling = h.filling;
        kept = ap (λ (k : ℕ). slab.get s k) w.1.1 ∙ h.kept;
        named = h.named;
        of_size = h.of_size;
      };
  alone = λ q r x y f g k.
      let v = found-back n q xs x f in
      let w = found-back n r xs y g in
      l.alone q r v.0 w.0 v.1.0 w.1.0 (sym v.1.1 ∙ k ∙ w.1.1);
  as_many = l.as_many ∙ sym (length-map xs (place_earlier n));
  within = subst (λ k. k ≤ limit) (sym (length-map xs (place_earlier n))) l.within;
  places = omega (arith, l.places, grown);
  slots = l.slots;
}

-- ---- the same is due

-- what isn't above the lesser of two is above neither
lesser-both : (n a : ℕ) (r : Option ℕ)
    → nat_le n (lesser a r) ≡ true
    → (n ≤ a) × (option_map_or (λ last. nat_le n last) r true ≡ true)
lesser-both n a None h = (leb-true n a h, refl)
lesser-both n a (Some b) h =
    elim (nat_lt b a) as (λ t. nat_lt b a ≡ t → nat_le n (cond t b a) ≡ true
    → (n ≤ a) × (nat_le n b ≡ true)) [
      | true ↦ λ t g. (grind (arith, nat_tests), g)
      | false ↦ λ t g. (leb-true n a g, grind (arith, nat_tests))
    ] refl h

-- no reception has an earlier last tick than the least
least-each : (es : List (Name × TableEntry)) (q : Name) (e : TableEntry) (n : ℕ)
    → option_map_or (λ last. nat_le n last) (least_last es) true ≡ true
    → find name_cmp q es ≡ Some e
    → n ≤ e.last
least-each [] q e n h f = absurd cc
least-each (x ∷ es) q e n h f =
    let w = lesser-both n x.1.last (least_last es) h in
    elim (eq_by_cmp name_cmp q x.0) as (λ b.
    cond b (Some x.1) (find name_cmp q es) ≡ Some e → n ≤ e.last) [
      | true ↦ λ g. let same = ap (λ (y : TableEntry). y.last) (inside x.1 e g) in
          omega (arith, w.0, same)
      | false ↦ λ g. least-each es q e n w.1 g
    ] f

-- where a table reaches back, each of its receptions does
pub each-reaches : (n : ℕ) (m : Entries) (q : Name) (e : TableEntry)
    → reaches_back n m ≡ true
    → map.get m q ≡ Some e
    → n ≤ e.last
each-reaches n m q e h f = least-each (map.entries m) q e n h (sym (get-entries m q) ∙ f)

-- a reception that is set back was there
was : (n : ℕ) (m : Entries) (q : Name) (e : TableEntry)
    → map.get (set_back n m) q ≡ Some e
    → (f : TableEntry) × ((map.get m q ≡ Some f) × (e ≡ earlier n f))
was n m q e is = go (map.get m q) refl where
  go : (r : Option TableEntry)
      → map.get m q ≡ r
      → (f : TableEntry) × ((map.get m q ≡ Some f) × (e ≡ earlier n f))
  go None h =
      absurd (let no : ◌≡◌ {A = Option TableEntry} None (Some e) =
      sym (get-set_back n m q ∙ ap (option_map (earlier n)) h) ∙ is in cc)
  go (Some f) h =
      let same : ◌≡◌ {A = Option TableEntry} (Some (earlier n f)) (Some e) =
      sym (get-set_back n m q ∙ ap (option_map (earlier n)) h) ∙ is in
      (f, (h, sym (inside (earlier n f) e same)))

module _ (t : TableState) (n now : ℕ) (reaches : reaches_back n t.entries ≡ true)
    (f : n ≤ now) where
  abbrev back : TableState
  back = table_back n t

  still_due : (r : Option Name) → IsDue t now r → IsDue back (now - n) r
  still_due None h = λ q e is late.
      let w = was n t.entries q e is in
      let last : e.last ≡ w.0.last - n = ap (λ (x : TableEntry). x.last) w.1.1 in
      let far : n ≤ w.0.last = each-reaches n t.entries q w.0 reaches w.1.0 in
      h q w.0 w.1.0 (omega arith)
  still_due (Some q) h =
      let far : n ≤ h.0.last = each-reaches n t.entries q h.0 reaches h.1.present in (
        earlier n h.0,
        record {
          present =
              get-set_back n t.entries q ∙ ap (option_map (earlier n)) h.1.present;
          overdue = omega (arith, h.1.overdue);
          oldest = λ other e is late.
              let w = was n t.entries other e is in
              let last : e.last ≡ w.0.last - n = ap (λ (x : TableEntry). x.last) w.1.1 in
              let from : n ≤ w.0.last = each-reaches n t.entries other w.0 reaches w.1.0 in
              let old = h.1.oldest other w.0 w.1.0 (omega arith) in
              omega (arith, old);
          least = λ other e is same.
              let w = was n t.entries other e is in
              let last : e.last ≡ w.0.last - n = ap (λ (x : TableEntry). x.last) w.1.1 in
              let from : n ≤ w.0.last = each-reaches n t.entries other w.0 reaches w.1.0 in
              h.1.least other w.0 w.1.0 (omega arith);
        },
      )

  pub due-back : due_of back (now - n) ≡ due_of t now
  due-back =
      due_unique back (now - n) (due_of back (now - n)) (due_of t now)
      (due_of_is back (now - n)) (still_due (due_of t now) (due_of_is t now))

-- each is due so many ticks earlier
pub due_at-back : (t : TableState) (n : ℕ) (q : Name)
    → reaches_back n t.entries ≡ true
    → due_at (table_back n t) q ≡ option_map (λ at. at - n) (due_at t q)
due_at-back t n q reaches =
    ap (option_map (λ (e : TableEntry). e.last + t.timeout)) (get-set_back n t.entries q)
    ∙ go (map.get t.entries q) refl where
      go : (r : Option TableEntry)
          → map.get t.entries q ≡ r
          → option_map (λ (e : TableEntry). e.last + t.timeout) (option_map (earlier n) r)
          ≡ option_map (λ at. at - n) (option_map (λ (e : TableEntry). e.last + t.timeout) r)
      go None h = refl
      go (Some e) h =
          let far : n ≤ e.last = each-reaches n t.entries q e reaches h in
          let same : (e.last - n) + t.timeout ≡ (e.last + t.timeout) - n = omega arith in
          ap (λ (k : ℕ). Some k) same

-- ---- no receptions

-- where none is open, none is after that
pub back-none : (n : ℕ) → set_back n map.empty ≡ map.empty
back-none n =
    same_map name_cmp_total name_cmp-IsAntisymmetric _ _ (λ q.
    get-set_back n map.empty q
    ∙ ap (option_map (earlier n)) (map.get-empty name_cmp q)
    ∙ sym (map.get-empty name_cmp q))

none_left : (n : ℕ) (es : List (Name × TableEntry))
    → length es ≡ 0
    → option_map_or (λ last. nat_le n last) (least_last es) true ≡ true
none_left n [] h = refl
none_left n (e ∷ es) h = absurd (omega arith)

-- and a table of none reaches back as far as one likes
pub reaches-none : (n : ℕ) → reaches_back n map.empty ≡ true
reaches-none n =
    none_left n (map.entries map.empty)
    (sym (map.len-entries map.empty) ∙ map.len-empty name_cmp TableEntry)
