-- The order of last ticks and names, and lists that are in an order.
use Rattle.std.specs.Prelude.{◌≡◌, ℕ, suc, ◌≤◌, ◌<◌, cond, T, List, [], ◌∷◌, Some, None, refl}
use Prim.Native.Nat.{zero}
use Rattle.std.specs.List.{remove}
use Rattle.std.specs.FinMap.Entries.{below_all, find, is_sorted}
use Rattle.std.specs.declared.cmp.Ordering.{Ordering}
use Rattle.std.specs.declared.cmp.Ordering.TheVariants.{Less, Equal, Greater}
use Rattle.std.specs.Ordering.{is_eq, is_lt, eq_by_cmp, nat_cmp, ordering_then}
use Rattle.std.specs.Cmp.{IsTotalOrder, nat_cmp_total, on_total, then_total, ranked}
use Rattle.std.proofs.Common.{◌∙◌, ap, arith}
use Rattle.lpt_packet.specs.Names.{Name, name_cmp}
use Rattle.lpt_packet.proofs.NameLemmas.{name_cmp_total}
use Rattle.lpt_table.specs.declared.places.DuePlace.{DuePlace}
use Rattle.lpt_table.specs.Places.{by_name, by_moment, when_cmp}
use Rattle.lpt_table.proofs.PlaceLemmas.{not_first}
use Rattle.lpt_packet.proofs.KeyLemmas.{both, first, second}

-- last ticks and names have a total order
pub when_cmp_total : IsTotalOrder when_cmp
when_cmp_total =
    then_total (on_total (λ (m : ℕ × Name). m.0) nat_cmp_total)
    (on_total (λ (m : ℕ × Name). m.1) name_cmp_total)

-- ---- lists in an order

module _ {K X : Type 0} (R : K → K → Ordering) where
  below_all-remove : (k : K) (es : List (K × X)) (i : ℕ)
      → T (below_all R k es)
      → T (below_all R k (remove es i))
  below_all-remove k [] zero h = tt
  below_all-remove k [] (suc i) h = tt
  below_all-remove k (e ∷ es) zero h = second (is_lt (R k e.0)) (below_all R k es) h
  below_all-remove k (e ∷ es) (suc i) h =
      both (is_lt (R k e.0)) (below_all R k (remove es i))
      (first (is_lt (R k e.0)) (below_all R k es) h)
      (below_all-remove k es i (second (is_lt (R k e.0)) (below_all R k es) h))

  -- a list stays in order when an entry is removed
  pub is_sorted-remove : (es : List (K × X)) (i : ℕ)
      → T (is_sorted R es)
      → T (is_sorted R (remove es i))
  is_sorted-remove [] zero h = tt
  is_sorted-remove [] (suc i) h = tt
  is_sorted-remove (e ∷ es) zero h = second (below_all R e.0 es) (is_sorted R es) h
  is_sorted-remove (e ∷ es) (suc i) h =
      both (below_all R e.0 (remove es i)) (is_sorted R (remove es i))
      (below_all-remove e.0 es i (first (below_all R e.0 es) (is_sorted R es) h))
      (is_sorted-remove es i (second (below_all R e.0 es) (is_sorted R es) h))

-- ---- places

-- where no place has a name, none has it at any tick
pub find-by_moment : (last : ℕ) (name : Name) (xs : List DuePlace)
    → find name_cmp name (by_name xs) ≡ None
    → find when_cmp (last, name) (by_moment xs) ≡ None
find-by_moment last name [] none = refl
find-by_moment last name (x ∷ xs) none =
    let n = not_first (eq_by_cmp name_cmp name x.name) x (find name_cmp name (by_name xs)) none in
    let rest = find when_cmp (last, name) (by_moment xs) in
    let later : rest ≡ None = find-by_moment last name xs n.1 in
    elim (nat_cmp last x.last) as (λ r.
    cond (is_eq (ordering_then r (name_cmp name x.name))) (Some x.key) rest ≡ None) [
      | Less ↦ later
      | Equal ↦ ap (λ b. cond b (Some x.key) rest) n.0 ∙ later
      | Greater ↦ later
    ]

-- an earlier one has no later tick
pub earlier_tick : (a b : ℕ) (r : Ordering) → ordering_then (nat_cmp a b) r ≡ Less → a ≤ b
earlier_tick a b r h =
    elim (nat_cmp a b) as (λ t. t ≡ nat_cmp a b → ordering_then t r ≡ Less → a ≤ b) [
      | Less ↦ λ e g. let is : a < b = ranked a b Less e in omega arith
      | Equal ↦ λ e g. let is : a ≡ b = ranked a b Equal e in omega arith
      | Greater ↦ λ e g. absurd cc
    ] refl h

-- and of one with the same tick the lesser name
pub earlier_name : (a b : ℕ) (r : Ordering)
    → ordering_then (nat_cmp a b) r ≡ Less
    → b ≡ a
    → r ≡ Less
earlier_name a b r h same =
    elim (nat_cmp a b) as (λ t. t ≡ nat_cmp a b → ordering_then t r ≡ Less → r ≡ Less) [
      | Less ↦ λ e g. let is : a < b = ranked a b Less e in absurd (omega (arith, same))
      | Equal ↦ λ e g. g
      | Greater ↦ λ e g. absurd cc
    ] refl h
