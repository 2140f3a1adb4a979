-- The first place is that of the reception which is due, where one is overdue.
use Rattle.std.specs.Prelude.{◌≡◌, ◌⊎◌, ℕ, ◌+◌, ◌≤◌, true, false, cond, nat_le, if◌then◌else◌, T, List, [], ◌∷◌, Some, None, refl}
use Rattle.std.specs.Option.{option_map}
use Rattle.std.specs.FinMap as map
use Rattle.std.specs.FinMap.{get-from_entries}
use Rattle.std.specs.FinMap.Entries.{below_all, find, is_sorted}
use Rattle.std.specs.declared.cmp.Ordering.TheVariants.{Less}
use Rattle.std.specs.Ordering.{is_lt, eq_by_cmp}
use Rattle.std.proofs.Common.{sym, ◌∙◌, ap, arith, inl, inr, leb-true, leb-false}
use Rattle.slab.specs.Slab.{Slab}
use Rattle.lpt_packet.proofs.NameLemmas.{name_cmp_total, name_before-refl, name_before-less}
use Rattle.lpt_packet.specs.Names.{Name, name_before, name_cmp}
use Rattle.lpt_part.specs.declared.mode.Mode.TheVariants.{Any}
use Rattle.lpt_reception.specs.Received.{Received}
use Rattle.lpt_table.specs.declared.places.DuePlace.{DuePlace}
use Rattle.lpt_table.specs.Deadlines.{IsDue, due_of, soonest}
use Rattle.lpt_table.specs.EntriesOf.{entry_at, entries_of, map_of}
use Rattle.lpt_table.specs.Places.{by_moment, when_cmp, first_overdue}
use Rattle.lpt_table.specs.Tables.{TableEntry, TableState}
use Rattle.lpt_table.proofs.DueLemmas.{due_of_is, due_unique}
use Rattle.lpt_table.proofs.ListingLemmas.{equal_tied, tied_equal, inside}
use Rattle.lpt_table.proofs.OrderLemmas.{earlier_tick, earlier_name}
use Rattle.lpt_packet.proofs.KeyLemmas.{less, first, second}

-- what stands behind a moment is later
behind : (m : ℕ × Name) (s : Slab Received) (xs : List DuePlace) (q : Name) (f : TableEntry)
    → T (below_all when_cmp m (by_moment xs))
    → find name_cmp q (entries_of s xs) ≡ Some f
    → when_cmp m (f.last, q) ≡ Less
behind m s [] q f up g = absurd cc
behind m s (x ∷ xs) q f up g =
    let rest = find name_cmp q (entries_of s xs) in
    let earlier = is_lt (when_cmp m (x.last, x.name)) in
    elim (eq_by_cmp name_cmp q x.name) as (λ b. eq_by_cmp name_cmp q x.name ≡ b
    → cond b (Some (entry_at s x)) rest ≡ Some f
    → when_cmp m (f.last, q) ≡ Less) [
      | true ↦ λ e h.
          let here : when_cmp m (x.last, x.name) ≡ Less =
          less _ (first earlier (below_all when_cmp m (by_moment xs)) up)
          in
          let is : entry_at s x ≡ f = inside (entry_at s x) f h in
          ap (λ (a : ℕ × Name). when_cmp m a)
          (λ i. ((sym is i).last, equal_tied q x.name e i)) ∙ here
      | false ↦ λ e h.
          behind m s xs q f (second earlier (below_all when_cmp m (by_moment xs)) up) h
    ] refl g

module _ (s : Slab Received) (x : DuePlace) (xs : List DuePlace)
    (up : T (is_sorted when_cmp (by_moment (x ∷ xs)))) where
  -- what is found is the first one or later
  cases : (q : Name) (f : TableEntry)
      → find name_cmp q (entries_of s (x ∷ xs)) ≡ Some f
      → ((q ≡ x.name) × (entry_at s x ≡ f)) ⊎ (when_cmp (x.last, x.name) (f.last, q) ≡ Less)
  cases q f g =
      let rest = find name_cmp q (entries_of s xs) in
      elim (eq_by_cmp name_cmp q x.name) as (λ b. eq_by_cmp name_cmp q x.name ≡ b
      → cond b (Some (entry_at s x)) rest ≡ Some f
      → ((q ≡ x.name) × (entry_at s x ≡ f)) ⊎ (when_cmp (x.last, x.name) (f.last, q) ≡ Less)) [
        | true ↦ λ e h. inl (equal_tied q x.name e, inside (entry_at s x) f h)
        | false ↦ λ e h.
            inr (behind (x.last, x.name) s xs q f
            (first (below_all when_cmp (x.last, x.name) (by_moment xs))
            (is_sorted when_cmp (by_moment xs)) up) h)
      ] refl g

  -- it has no earlier tick
  no_earlier : (q : Name) (f : TableEntry)
      → find name_cmp q (entries_of s (x ∷ xs)) ≡ Some f
      → x.last ≤ f.last
  no_earlier q f g = elim (cases q f g) [
    | inl w ↦ let same = ap (λ (f : TableEntry). f.last) w.1 in omega (arith, same)
    | inr w ↦ earlier_tick x.last f.last (name_cmp x.name q) w
  ]

  -- and at the same tick no lesser name
  no_lesser : (q : Name) (f : TableEntry)
      → find name_cmp q (entries_of s (x ∷ xs)) ≡ Some f
      → f.last ≡ x.last
      → name_before q x.name ≡ false
  no_lesser q f g same = elim (cases q f g) [
    | inl w ↦ ap (λ n. name_before n x.name) w.0 ∙ name_before-refl x.name
    | inr w ↦
        name_before-less x.name q (earlier_name x.last f.last (name_cmp x.name q) w same)
  ]

-- the receptions at these places, under this timeout
abbrev at_places : ℕ → Slab Received → List DuePlace → TableState
at_places timeout s xs =
    record { limit = 0; timeout = timeout; p = 0; mode = Any; entries = map_of s xs; out = None }

found : (s : Slab Received) (xs : List DuePlace) (q : Name) (f : TableEntry)
    → map.get (map_of s xs) q ≡ Some f
    → find name_cmp q (entries_of s xs) ≡ Some f
found s xs q f g = sym (get-from_entries name_cmp_total (entries_of s xs) q) ∙ g

first_is_due : (timeout now : ℕ) (s : Slab Received) (xs : List DuePlace)
    → T (is_sorted when_cmp (by_moment xs))
    → IsDue (at_places timeout s xs) now (first_overdue timeout now xs)
first_is_due timeout now s [] up = λ q f g. absurd (let none = found s [] q f g in cc)
first_is_due timeout now s (x ∷ xs) up =
    elim (nat_le (x.last + timeout) now) as (λ t. nat_le (x.last + timeout) now ≡ t
    → IsDue (at_places timeout s (x ∷ xs)) now (if t then Some x.name else None)) [
      | true ↦ λ p. (
        entry_at s x,
        record {
          present = get-from_entries name_cmp_total (entries_of s (x ∷ xs)) x.name
              ∙ ap (λ b. cond b (Some (entry_at s x)) (find name_cmp x.name (entries_of s xs)))
              (tied_equal x.name x.name refl);
          overdue = leb-true (x.last + timeout) now p;
          oldest = λ q f g late. no_earlier s x xs up q f (found s (x ∷ xs) q f g);
          least = λ q f g same. no_lesser s x xs up q f (found s (x ∷ xs) q f g) same;
        },
      )
      | false ↦ λ p. λ q f g late.
          absurd (omega (
            arith,
            late,
            no_earlier s x xs up q f (found s (x ∷ xs) q f g),
            leb-false (x.last + timeout) now p,
          ))
    ] refl

-- the first place is that of the reception that is due
pub first_overdue-is : (timeout now : ℕ) (s : Slab Received) (xs : List DuePlace)
    → T (is_sorted when_cmp (by_moment xs))
    → first_overdue timeout now xs
    ≡ option_map (λ (b : Name × ℕ). b.0) (soonest timeout now (map.entries (map_of s xs)))
first_overdue-is timeout now s xs up =
    due_unique (at_places timeout s xs) now
    (first_overdue timeout now xs) (due_of (at_places timeout s xs) now)
    (first_is_due timeout now s xs up) (due_of_is (at_places timeout s xs) now)
