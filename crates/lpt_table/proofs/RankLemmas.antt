-- Where a last tick and a name belong among places in order, when the search begins at the end.
use Rattle.std.specs.Prelude.{◌≡◌, ℕ, suc, ◌≤◌, ◌<◌, T, List, [], ◌∷◌, length, refl, slice_index_or}
use Prim.Native.Nat.{zero}
use Rattle.std.specs.FinMap.Entries.{below_all, by_order, is_sorted}
use Rattle.std.specs.declared.cmp.Ordering.{Ordering}
use Rattle.std.specs.declared.cmp.Ordering.TheVariants.{Less, Equal, Greater}
use Rattle.std.specs.Ordering.{is_lt}
use Rattle.std.proofs.Common.{ap, arith}
use Rattle.lpt_packet.specs.Names.{Name}
use Rattle.lpt_table.specs.declared.places.DuePlace.{DuePlace}
use Rattle.lpt_table.specs.Places.{by_moment, rank, when_cmp}
use Rattle.lpt_table.proofs.OrderLemmas.{when_cmp_total}
use Rattle.lpt_packet.proofs.KeyLemmas.{less, first, second}

-- a last tick and a name beside those of a place
abbrev pub beside : ℕ × Name → DuePlace → Ordering
beside m x = when_cmp m (x.last, x.name)

-- before a place that is later, it belongs at that place or before
pub rank-at-most : (m : ℕ × Name) (xs : List DuePlace) (i : ℕ) (d : DuePlace)
    → i < length xs
    → beside m (slice_index_or xs i d) ≡ Less
    → rank when_cmp m (by_moment xs) ≤ i
rank-at-most m [] i d in_it h = absurd (omega (arith, in_it))
rank-at-most m (x ∷ xs) zero d in_it h =
    let n = rank when_cmp m (by_moment xs) in rw h (omega arith)
rank-at-most m (x ∷ xs) (suc i) d in_it h =
    let n = rank when_cmp m (by_moment xs) in
    let rest = rank-at-most m xs i d (omega (arith, in_it)) h in
    elim (beside m x) as (λ r. by_order r 0 (suc n) (suc n) ≤ suc i) [
      | Less ↦ omega arith
      | Equal ↦ omega (arith, rest)
      | Greater ↦ omega (arith, rest)
    ]

-- what is below all is below each
pub below_each : (m : ℕ × Name) (xs : List DuePlace) (i : ℕ) (d : DuePlace)
    → i < length xs
    → T (below_all when_cmp m (by_moment xs))
    → beside m (slice_index_or xs i d) ≡ Less
below_each m [] i d in_it up = absurd (omega (arith, in_it))
below_each m (x ∷ xs) zero d in_it up =
    less (beside m x) (first (is_lt (beside m x)) (below_all when_cmp m (by_moment xs)) up)
below_each m (x ∷ xs) (suc i) d in_it up =
    below_each m xs i d (omega (arith, in_it))
    (second (is_lt (beside m x)) (below_all when_cmp m (by_moment xs)) up)

-- what is below all belongs before them
pub rank-below_all : (m : ℕ × Name) (xs : List DuePlace)
    → T (below_all when_cmp m (by_moment xs))
    → rank when_cmp m (by_moment xs) ≡ 0
rank-below_all m [] up = refl
rank-below_all m (x ∷ xs) up =
    let n = rank when_cmp m (by_moment xs) in
    ap (λ r. by_order r 0 (suc n) (suc n))
    (less (beside m x) (first (is_lt (beside m x)) (below_all when_cmp m (by_moment xs)) up))

-- it belongs behind a place that is not later
pub rank-beyond : (m : ℕ × Name) (xs : List DuePlace) (i : ℕ) (d : DuePlace)
    → T (is_sorted when_cmp (by_moment xs))
    → i < length xs
    → (beside m (slice_index_or xs i d) ≡ Less → ⊥)
    → i < rank when_cmp m (by_moment xs)
rank-beyond m [] i d up in_it h = absurd (omega (arith, in_it))
rank-beyond m (x ∷ xs) zero d up in_it h =
    let n = rank when_cmp m (by_moment xs) in
    elim (beside m x) as (λ r. (r ≡ Less → ⊥) → 0 < by_order r 0 (suc n) (suc n)) [
      | Less ↦ λ g. absurd (g refl)
      | Equal ↦ λ g. omega arith
      | Greater ↦ λ g. omega arith
    ] h
rank-beyond m (x ∷ xs) (suc i) d up in_it h =
    let n = rank when_cmp m (by_moment xs) in
    let below = below_all when_cmp (x.last, x.name) (by_moment xs) in
    let within : i < length xs = omega (arith, in_it) in
    let rest =
    rank-beyond m xs i d (second below (is_sorted when_cmp (by_moment xs)) up) within h
    in
    elim (beside m x) as (λ r. beside m x ≡ r → suc i < by_order r 0 (suc n) (suc n)) [
      | Less ↦ λ e.
          let y = slice_index_or xs i d in
          let later =
          below_each (x.last, x.name) xs i d within
          (first below (is_sorted when_cmp (by_moment xs)) up)
          in
          absurd (h (when_cmp_total.trans m (x.last, x.name) (y.last, y.name) e later))
      | Equal ↦ λ e. omega (arith, rest)
      | Greater ↦ λ e. omega (arith, rest)
    ] refl
