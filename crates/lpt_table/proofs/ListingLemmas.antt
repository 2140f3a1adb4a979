-- The receptions at a list of places as a finite map has them.
use Rattle.std.specs.Prelude.{◌≡◌, ℕ, ◌<◌, true, false, cond, List, [], ◌∷◌, length, Option, Some, None, refl}
use Rattle.std.specs.Option.{option_map}
use Rattle.std.specs.FinMap as maps
use Rattle.std.specs.FinMap.{get-from_entries}
use Rattle.std.specs.FinMap.Entries.{find}
use Rattle.std.specs.Ordering.{eq_by_cmp}
use Rattle.std.proofs.Common.{sym, ◌∙◌, ap, subst, arith}
use Rattle.std.proofs.lemmas.List.{length-map}
use Rattle.slab.specs.Slab.{Slab, get}
use Rattle.lpt_packet.proofs.NameLemmas.{name_cmp_total, name_tied, same_name-refl, same_name-true}
use Rattle.lpt_packet.specs.Names.{Name, name_cmp, same_name}
use Rattle.lpt_reception.specs.Received.{Received}
use Rattle.lpt_table.specs.declared.places.DuePlace.{DuePlace}
use Rattle.lpt_table.specs.EntriesOf.{entry_at, parts_in, entries_of, map_of}
use Rattle.lpt_table.specs.EntryLists.{Listing}
use Rattle.lpt_table.specs.Places.{by_name, AreApart}
use Rattle.lpt_table.specs.Tables.{Entries}
use Rattle.lpt_table.proofs.PlaceLemmas.{len-from_entries}

-- ---- names and options

-- equal names tie
pub tied_equal : (q name : Name) → q ≡ name → eq_by_cmp name_cmp q name ≡ true
tied_equal q name e = name_tied q name ∙ ap (λ (n : Name). same_name n name) e ∙ same_name-refl name

-- names tie where they are equal
pub equal_tied : (q name : Name) → eq_by_cmp name_cmp q name ≡ true → q ≡ name
equal_tied q name h = same_name-true q name (sym (name_tied q name) ∙ h)

-- what stands in two options that are equal is equal
pub inside : {X : Type 0} (x y : X) → Some x ≡ Some y → x ≡ y
inside x y e = cc

-- ---- the places and the map

-- a place under its name
abbrev pub under_name : DuePlace → Name × DuePlace
under_name x = (x.name, x)

-- it has as many entries as there are places
pub length-by_name : (xs : List DuePlace) → length (by_name xs) ≡ length xs
length-by_name xs = length-map xs under_name

-- what is found of the receptions is what is kept at the place of the name
find-entries_of : (s : Slab Received) (q : Name) (xs : List DuePlace)
    → find name_cmp q (entries_of s xs) ≡ option_map (entry_at s) (find name_cmp q (by_name xs))
find-entries_of s q [] = refl
find-entries_of s q (x ∷ xs) =
    elim (eq_by_cmp name_cmp q x.name) as (λ b.
    cond b (Some (entry_at s x)) (find name_cmp q (entries_of s xs))
    ≡ option_map (entry_at s) (cond b (Some x) (find name_cmp q (by_name xs)))) [
      | true ↦ refl
      | false ↦ find-entries_of s q xs
    ]

-- so what the map has is what is kept at the place of the name
pub get-map_of : (s : Slab Received) (xs : List DuePlace) (q : Name)
    → maps.get (map_of s xs) q ≡ option_map (entry_at s) (find name_cmp q (by_name xs))
get-map_of s xs q = get-from_entries name_cmp_total (entries_of s xs) q ∙ find-entries_of s q xs

AreApart-entries_of : (s : Slab Received) (xs : List DuePlace)
    → AreApart name_cmp (by_name xs)
    → AreApart name_cmp (entries_of s xs)
AreApart-entries_of s [] h = tt
AreApart-entries_of s (x ∷ xs) h = (
  find-entries_of s x.name xs ∙ ap (option_map (entry_at s)) h.0,
  AreApart-entries_of s xs h.1,
)

-- as many receptions are open as there are places
pub len-map_of : (s : Slab Received) (xs : List DuePlace)
    → AreApart name_cmp (by_name xs)
    → maps.len (map_of s xs) ≡ length xs
len-map_of s xs h =
    len-from_entries name_cmp name_cmp_total (entries_of s xs) (AreApart-entries_of s xs h)
    ∙ length-map xs (λ (x : DuePlace). (x.name, entry_at s x))

-- what is found under a name has that name
pub find-named : (q : Name) (xs : List DuePlace) (x : DuePlace)
    → find name_cmp q (by_name xs) ≡ Some x
    → x.name ≡ q
find-named q [] x h = absurd cc
find-named q (y ∷ ys) x h =
    elim (eq_by_cmp name_cmp q y.name) as (λ b. eq_by_cmp name_cmp q y.name ≡ b
    → cond b (Some y) (find name_cmp q (by_name ys)) ≡ Some x → x.name ≡ q) [
      | true ↦ λ t g. ap (λ (z : DuePlace). z.name) (sym (inside y x g))
          ∙ sym (equal_tied q y.name t)
      | false ↦ λ t g. find-named q ys x g
    ] refl h

-- receptions that stay where they are stay the same
pub same_entries : (s t : Slab Received) (r : Option DuePlace)
    → ((y : DuePlace) → r ≡ Some y → get t y.key ≡ get s y.key)
    → option_map (entry_at t) r ≡ option_map (entry_at s) r
same_entries s t None h = refl
same_entries s t (Some y) h =
    ap (λ (o : Option Received). Some (record { parts = parts_in o; last = y.last })) (h y refl)

-- a list with so many places, of this part size, with these receptions
abbrev pub listing : ℕ → ℕ → Entries → Listing
listing limit p m = record { limit = limit; p = p; entries = m }

-- a change of the receptions as one of the value
pub changed : (limit p : ℕ) (m n : Entries) (now : Listing) (f : Entries → Entries)
    → listing limit p m ≡ now
    → n ≡ f m
    → listing limit p n ≡ record now { entries = f now.entries }
changed limit p m n now f is h =
    subst (λ (l : Listing). listing limit p n ≡ record l { entries = f l.entries }) is
    (ap (listing limit p) h)

-- a place that is free in the value is free in the list
pub free : (limit p : ℕ) (s : Slab Received) (xs : List DuePlace) (now : Listing)
    → AreApart name_cmp (by_name xs)
    → listing limit p (map_of s xs) ≡ now
    → maps.len now.entries < now.limit
    → length xs < limit
free limit p s xs now h is room =
    let len = ap (λ (l : Listing). maps.len l.entries) is in
    let places = ap (λ (l : Listing). l.limit) is in
    omega (arith, len-map_of s xs h, len, places, room)
