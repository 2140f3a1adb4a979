-- What is computed as due is due, and nothing else is.
use Rattle.std.specs.Prelude.{◌≡◌, ℕ, ◌+◌, ◌≤◌, ◌<◌, true, false, nat_le, nat_lt, T, if◌then◌else◌, List, [], ◌∷◌, Option, Some, None, refl}
use Rattle.std.specs.Option.{option_map}
use Rattle.std.specs.FinMap as map
use Rattle.std.specs.FinMap.{get-entries, entries_sorted}
use Rattle.std.specs.FinMap.Entries.{below_all, find, is_sorted}
use Rattle.std.proofs.Common.{sym, ◌∙◌, ap, arith, inl, inr, ltb-true, ltb-false, leb-true, leb-false}
use Rattle.lpt_packet.specs.Names.{Name, name_before, name_cmp}
use Rattle.lpt_packet.proofs.KeyLemmas.{first, second, found_first, found_cases, found_above, found_still}
use Rattle.lpt_packet.proofs.NameLemmas.{name_cmp_total, name_cmp-IsAntisymmetric, name_before-refl, name_before-less, neither_before}
use Rattle.lpt_table.specs.Deadlines.{IsDue, sooner, soonest, due_of}
use Rattle.lpt_table.specs.Tables.{TableEntry, TableState}

-- ---- the soonest of a list

-- an overdue reception of the list with the least last tick, and of equal ones the least name
record IsSoonest (timeout now : ℕ) (es : List (Name × TableEntry)) (b : Name × ℕ) : Type 0 where
  entry : TableEntry
  here : find name_cmp b.0 es ≡ Some entry
  last : entry.last ≡ b.1
  overdue : b.1 + timeout ≤ now
  oldest : (q : Name) (f : TableEntry)
      → find name_cmp q es ≡ Some f → f.last + timeout ≤ now → b.1 ≤ f.last
  least : (q : Name) (f : TableEntry)
      → find name_cmp q es ≡ Some f → f.last ≡ b.1 → name_before q b.0 ≡ false

abbrev Soonest : ℕ → ℕ → List (Name × TableEntry) → Option (Name × ℕ) → Type 0
Soonest timeout now es None =
    (q : Name) (f : TableEntry) → find name_cmp q es ≡ Some f → ¬ (f.last + timeout ≤ now)
Soonest timeout now es (Some b) = IsSoonest timeout now es b

-- of equal entries the last ticks are equal
same_last : (x y : TableEntry) → x ≡ y → x.last ≡ y.last
same_last x y p = ap (λ (x : TableEntry). x.last) p

module _ (timeout now : ℕ) (e : Name × TableEntry) (es : List (Name × TableEntry))
    (up : T (is_sorted name_cmp (e ∷ es))) where
  -- the first is not overdue, or one behind it is sooner
  stays : (b : Name × ℕ)
      → (e.1.last + timeout ≤ now → b.1 < e.1.last)
      → IsSoonest timeout now es b
      → IsSoonest timeout now (e ∷ es) b
  stays b later h = record {
    entry = h.entry;
    here = found_still name_cmp_total name_cmp-IsAntisymmetric b.0 h.entry e es up h.here;
    last = h.last;
    overdue = h.overdue;
    oldest = λ q f g late. elim (found_cases name_cmp_total name_cmp-IsAntisymmetric q f e es g) [
      | inl w ↦
          let same = same_last f e.1 w.1 in
          let sooner = later (omega (arith, same, late)) in
          omega (arith, same, sooner)
      | inr w ↦ h.oldest q f w.1 late
    ];
    least = λ q f g as_late. elim (found_cases name_cmp_total name_cmp-IsAntisymmetric q f e es g) [
      | inl w ↦
          let same = same_last f e.1 w.1 in
          let sooner = later (omega (arith, same, as_late, h.overdue)) in
          absurd (omega (arith, same, sooner, as_late))
      | inr w ↦ h.least q f w.1 as_late
    ];
  }

  -- the first is overdue, and none behind it is sooner
  wins : e.1.last + timeout ≤ now
      → ((q : Name) (f : TableEntry)
      → find name_cmp q es ≡ Some f → f.last + timeout ≤ now → e.1.last ≤ f.last)
      → IsSoonest timeout now (e ∷ es) (e.0, e.1.last)
  wins late h = record {
    entry = e.1;
    here = found_first name_cmp_total name_cmp-IsAntisymmetric e.0 e es refl;
    last = refl;
    overdue = late;
    oldest = λ q f g too. elim (found_cases name_cmp_total name_cmp-IsAntisymmetric q f e es g) [
      | inl w ↦ omega (arith, same_last f e.1 w.1)
      | inr w ↦ h q f w.1 too
    ];
    least = λ q f g as_late. elim (found_cases name_cmp_total name_cmp-IsAntisymmetric q f e es g) [
      | inl w ↦ ap (λ n. name_before n e.0) w.0 ∙ name_before-refl e.0
      | inr w ↦ name_before-less e.0 q (found_above name_cmp_total name_cmp-IsAntisymmetric e.0 q f es (first (below_all name_cmp e.0 es) (is_sorted name_cmp es) up) w.1)
    ];
  }

  late_first : (r : Option (Name × ℕ))
      → e.1.last + timeout ≤ now
      → Soonest timeout now es r
      → Soonest timeout now (e ∷ es) (sooner (Some (e.0, e.1.last)) r)
  late_first None late h = wins late (λ q f g too. absurd (h q f g too))
  late_first (Some b) late h =
      elim (nat_lt b.1 e.1.last) as (λ t. nat_lt b.1 e.1.last ≡ t
      → Soonest timeout now (e ∷ es) (if t then Some b else Some (e.0, e.1.last))) [
        | true ↦ λ p. stays b (λ _. ltb-true b.1 e.1.last p) h
        | false ↦ λ p.
            wins late (λ q f g too. omega (arith, h.oldest q f g too, ltb-false b.1 e.1.last p))
      ] refl

  timely_first : (r : Option (Name × ℕ))
      → ¬ (e.1.last + timeout ≤ now)
      → Soonest timeout now es r
      → Soonest timeout now (e ∷ es) r
  timely_first None timely h = λ q f g late. elim (found_cases name_cmp_total name_cmp-IsAntisymmetric q f e es g) [
    | inl w ↦ timely (omega (arith, same_last f e.1 w.1, late))
    | inr w ↦ h q f w.1 late
  ]
  timely_first (Some b) timely h = stays b (λ late. absurd (timely late)) h

-- what is computed of a list is the soonest of it
soonest_is : (timeout now : ℕ) (es : List (Name × TableEntry))
    → T (is_sorted name_cmp es)
    → Soonest timeout now es (soonest timeout now es)
soonest_is timeout now [] up = λ q f g. absurd cc
soonest_is timeout now (e ∷ es) up =
    let rest = soonest_is timeout now es (second (below_all name_cmp e.0 es) (is_sorted name_cmp es) up) in
    elim (nat_le (e.1.last + timeout) now) as (λ t. nat_le (e.1.last + timeout) now ≡ t
    → Soonest timeout now (e ∷ es)
    (sooner (if t then Some (e.0, e.1.last) else None) (soonest timeout now es))) [
      | true ↦ λ p.
          late_first timeout now e es up (soonest timeout now es)
          (leb-true (e.1.last + timeout) now p) rest
      | false ↦ λ p.
          timely_first timeout now e es up (soonest timeout now es)
          (λ late. absurd (omega (arith, leb-false (e.1.last + timeout) now p))) rest
    ] refl

-- ---- what is due

soonest_due : (t : TableState) (now : ℕ) (r : Option (Name × ℕ))
    → Soonest t.timeout now (map.entries t.entries) r
    → IsDue t now (option_map (λ b. b.0) r)
soonest_due t now None h = λ name entry g. h name entry (sym (get-entries t.entries name) ∙ g)
soonest_due t now (Some b) h = (
  h.entry,
  record {
    present = get-entries t.entries b.0 ∙ h.here;
    overdue = omega (arith, h.overdue, h.last);
    oldest = λ other its g late.
        omega (arith, h.oldest other its (sym (get-entries t.entries other) ∙ g) late, h.last);
    least = λ other its g same.
        h.least other its (sym (get-entries t.entries other) ∙ g) (same ∙ h.last);
  },
)

-- what is computed as due is due
pub due_of_is : (t : TableState) (now : ℕ) → IsDue t now (due_of t now)
due_of_is t now =
    soonest_due t now (soonest t.timeout now (map.entries t.entries))
    (soonest_is t.timeout now (map.entries t.entries) (entries_sorted t.entries))

-- no two answers are due
pub due_unique : (t : TableState) (now : ℕ) (a b : Option Name)
    → IsDue t now a
    → IsDue t now b
    → a ≡ b
due_unique t now None None h g = refl
due_unique t now None (Some j) h g = absurd (h j g.0 g.1.present g.1.overdue)
due_unique t now (Some i) None h g = absurd (g i h.0 h.1.present h.1.overdue)
due_unique t now (Some i) (Some j) h g =
    let ticks : h.0.last ≡ g.0.last =
    omega (
      arith,
      h.1.oldest j g.0 g.1.present g.1.overdue,
      g.1.oldest i h.0 h.1.present h.1.overdue,
    )
    in
    ap (λ x. Some x)
    (neither_before i j (g.1.least i h.0 h.1.present ticks)
    (h.1.least j g.0 g.1.present (sym ticks)))
