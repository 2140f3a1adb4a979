-- What inserting and removing one entry make of a list of entries, whose keys need not be in order.
use Rattle.std.specs.Prelude.{◌≡◌, ℕ, suc, ◌+◌, ◌≤◌, ◌<◌, Bool, true, false, not, cond, List, [], ◌∷◌, length, Option, Some, None, refl, slice_index_or, is_some}
use Prim.Native.Nat.{zero}
use Rattle.std.specs.List.{insert, remove}
use Rattle.std.specs.Option.{option_map}
use Rattle.std.specs.FinMap as map
use Rattle.std.specs.FinMap.{FinMap, get-from_entries, len-insert, len-empty}
use Rattle.std.specs.FinMap.Entries.{by_order, find, find_tied, put, where_key}
use Rattle.std.specs.declared.cmp.Ordering.{Ordering}
use Rattle.std.specs.declared.cmp.Ordering.TheVariants.{Less, Equal, Greater}
use Rattle.std.specs.Ordering.{is_eq, eq_by_cmp}
use Rattle.std.specs.Cmp.{IsTotalOrder, eq_by_cmp_equiv, tied_back}
use Rattle.std.proofs.Common.{sym, ◌∙◌, ap, arith}
use Rattle.lpt_table.specs.Places.{spot, rank, AreApart}
use Rattle.lpt_table.proofs.MapLemmas.{is_other, equal}

-- where a search that looks at one entry first finds nothing, that entry is not the one
pub not_first : {X : Type 0} (b : Bool) (x : X) (r : Option X)
    → cond b (Some x) r ≡ None
    → (b ≡ false) × (r ≡ None)
not_first true x r h = absurd cc
not_first false x r h = (refl, h)

-- two tests that never pass both are made in either order
swapped : {A : Type 0} (a b : Bool) (x y z : A)
    → (a ≡ true → b ≡ true → ⊥)
    → cond a x (cond b y z) ≡ cond b y (cond a x z)
swapped true true x y z apart = absurd (apart refl refl)
swapped true false x y z apart = refl
swapped false b x y z apart = refl

-- no key ties with two that don't tie
never_both : {K : Type 0} (R : K → K → Ordering) → IsTotalOrder R → (k q x : K)
    → eq_by_cmp R k x ≡ false
    → eq_by_cmp R q x ≡ true
    → eq_by_cmp R q k ≡ true
    → ⊥
never_both R o k q x other a b =
    let same = ap is_eq (o.congr q k x (equal (R q k) b)) in
    let never : true ≡ false = sym a ∙ same ∙ other in cc

module _ {K X : Type 0} (R : K → K → Ordering) where
  -- ---- an entry that is left out

  -- to leave out a key that has no entry leaves all
  where_key-absent : (k : K) (es : List (K × X))
      → find R k es ≡ None
      → where_key R (is_other R k) es ≡ es
  where_key-absent k [] h = refl
  where_key-absent k (e ∷ es) h =
      let rest = where_key R (is_other R k) es in
      elim (R k e.0) as (λ r. cond (is_eq r) (Some e.1) (find R k es) ≡ None
      → cond (not (is_eq r)) (e ∷ rest) rest ≡ e ∷ es) [
        | Less ↦ λ g. ap (λ l. e ∷ l) (where_key-absent k es g)
        | Equal ↦ λ g. absurd cc
        | Greater ↦ λ g. ap (λ l. e ∷ l) (where_key-absent k es g)
      ] h

  -- a key that has no entry has none where some are left out
  still_absent : (p : K → Bool) (q : K) (es : List (K × X))
      → find R q es ≡ None
      → find R q (where_key R p es) ≡ None
  still_absent p q [] h = refl
  still_absent p q (e ∷ es) h =
      let n = not_first (eq_by_cmp R q e.0) e.1 (find R q es) h in
      let rest = where_key R p es in
      elim (p e.0) as (λ b. find R q (cond b (e ∷ rest) rest) ≡ None) [
        | true ↦ ap (λ b. cond b (Some e.1) (find R q rest)) n.0 ∙ still_absent p q es n.1
        | false ↦ still_absent p q es n.1
      ]

  -- no key stands twice where some are left out
  pub AreApart-where_key : (p : K → Bool) (es : List (K × X))
      → AreApart R es
      → AreApart R (where_key R p es)
  AreApart-where_key p [] h = tt
  AreApart-where_key p (e ∷ es) h =
      let rest = where_key R p es in
      elim (p e.0) as (λ b. AreApart R (cond b (e ∷ rest) rest)) [
        | true ↦ (still_absent p e.0 es h.0, AreApart-where_key p es h.1)
        | false ↦ AreApart-where_key p es h.1
      ]

  -- ---- where a key stands

  -- the entry of the key stands at this place
  pub record IsSpot (k : K) (es : List (K × X)) (i : ℕ) : Type 0 where
    pub within : i < length es
    pub value : (d : K × X) → find R k es ≡ Some (slice_index_or es i d).1
    pub rest : where_key R (is_other R k) es ≡ remove es i

  -- what a search for a key says
  abbrev pub Spots : K → List (K × X) → Option ℕ → Type 0
  Spots k es None = find R k es ≡ None
  Spots k es (Some i) = IsSpot k es i

  -- a key has a place where it has an entry
  pub is_some-Spots : (k : K) (es : List (K × X)) (r : Option ℕ)
      → Spots k es r
      → is_some r ≡ is_some (find R k es)
  is_some-Spots k es None h = sym (ap is_some h)
  is_some-Spots k [] (Some i) h = absurd (omega (arith, h.within))
  is_some-Spots k (e ∷ es) (Some i) h = sym (ap is_some (h.value e))

  one_later : (k : K) (e : K × X) (es : List (K × X)) (r : Option ℕ)
      → eq_by_cmp R k e.0 ≡ false
      → Spots k es r
      → Spots k (e ∷ es) (option_map suc r)
  one_later k e es None p h = ap (λ b. cond b (Some e.1) (find R k es)) p ∙ h
  one_later k e es (Some i) p h = record {
    within = omega (arith, h.within);
    value = λ d. ap (λ b. cond b (Some e.1) (find R k es)) p ∙ h.value d;
    rest = ap (λ b. cond (not b) (e ∷ where_key R (is_other R k) es)
        (where_key R (is_other R k) es)) p
        ∙ ap (λ l. e ∷ l) h.rest;
  }

  -- ---- where a key belongs

  -- a key belongs into the list or at its end
  pub rank-within : (k : K) (es : List (K × X)) → rank R k es ≤ length es
  rank-within k [] = omega arith
  rank-within k (e ∷ es) =
      let more : suc (rank R k es) ≤ suc (length es) = omega (arith, rank-within k es) in
      elim (R k e.0) as (λ r.
      by_order r 0 (suc (rank R k es)) (suc (rank R k es)) ≤ suc (length es)) [
        | Less ↦ omega arith
        | Equal ↦ more
        | Greater ↦ more
      ]

  -- a new key is put where it belongs
  pub put-rank : (k : K) (v : X) (es : List (K × X))
      → find R k es ≡ None
      → put R k v es ≡ insert es (rank R k es) (k, v)
  put-rank k v [] none = refl
  put-rank k v (e ∷ es) none =
      elim (R k e.0) as (λ r. cond (is_eq r) (Some e.1) (find R k es) ≡ None
      → by_order r ((k, v) ∷ e ∷ es) ((e.0, v) ∷ es) (e ∷ put R k v es)
      ≡ insert (e ∷ es) (by_order r 0 (suc (rank R k es)) (suc (rank R k es))) (k, v)) [
        | Less ↦ λ g. refl
        | Equal ↦ λ g. absurd cc
        | Greater ↦ λ g. ap (λ l. e ∷ l) (put-rank k v es g)
      ] none

  module _ (o : IsTotalOrder R) where
    -- what a search for a key finds
    pub Spots-spot : (k : K) (es : List (K × X)) → AreApart R es → Spots k es (spot R k es)
    Spots-spot k [] h = refl
    Spots-spot k (e ∷ es) h =
        let rest = spot R k es in
        let later = λ (p : eq_by_cmp R k e.0 ≡ false).
        one_later k e es rest p (Spots-spot k es h.1)
        in
        elim (R k e.0) as (λ r. R k e.0 ≡ r
        → Spots k (e ∷ es) (by_order r (option_map suc rest) (Some 0) (option_map suc rest))) [
          | Less ↦ λ p. later (ap is_eq p)
          | Equal ↦ λ p. record {
            within = omega arith;
            value = λ d. ap (λ r. cond (is_eq r) (Some e.1) (find R k es)) p;
            rest = ap (λ r. cond (not (is_eq r)) (e ∷ where_key R (is_other R k) es)
                (where_key R (is_other R k) es)) p
                ∙ where_key-absent k es
                (find_tied R o e.0 k (tied_back o k e.0 p) es ∙ h.0);
          }
          | Greater ↦ λ p. later (ap is_eq p)
        ] refl

    -- ---- an entry that is inserted

    -- what is found once a new key is inserted anywhere
    pub find-inserted : (k : K) (v : X) (es : List (K × X)) (i : ℕ) (q : K)
        → find R k es ≡ None
        → find R q (insert es i (k, v)) ≡ cond (eq_by_cmp R q k) (Some v) (find R q es)
    find-inserted k v es zero q none = refl
    find-inserted k v [] (suc i) q none = refl
    find-inserted k v (e ∷ es) (suc i) q none =
        let n = not_first (eq_by_cmp R k e.0) e.1 (find R k es) none in
        ap (cond (eq_by_cmp R q e.0) (Some e.1)) (find-inserted k v es i q n.1)
        ∙ swapped (eq_by_cmp R q e.0) (eq_by_cmp R q k) (Some e.1) (Some v) (find R q es)
        (never_both R o k q e.0 n.0)

    -- then still no key stands twice
    pub AreApart-inserted : (k : K) (v : X) (es : List (K × X)) (i : ℕ)
        → find R k es ≡ None
        → AreApart R es
        → AreApart R (insert es i (k, v))
    AreApart-inserted k v es zero none h = (none, h)
    AreApart-inserted k v [] (suc i) none h = (refl, tt)
    AreApart-inserted k v (e ∷ es) (suc i) none h =
        let n = not_first (eq_by_cmp R k e.0) e.1 (find R k es) none in
        let other : eq_by_cmp R e.0 k ≡ false = (eq_by_cmp_equiv o).symm e.0 k ∙ n.0 in (
          find-inserted k v es i e.0 n.1
              ∙ ap (λ b. cond b (Some v) (find R e.0 es)) other
              ∙ h.0,
          AreApart-inserted k v es i n.1 h.1,
        )

    -- ---- as a finite map

    -- a map has as many entries as the list that it is made of
    pub len-from_entries : (es : List (K × X))
        → AreApart R es
        → map.len (map.from_entries {R = R} es) ≡ length es
    len-from_entries [] h = len-empty R X
    len-from_entries (e ∷ es) h =
        let m : FinMap R X = map.from_entries es in
        let new : map.contains_key m e.0 ≡ false = ap is_some (get-from_entries o es e.0 ∙ h.0) in
        len-insert o m e.0 e.1 ∙ ap (λ b. cond b (map.len m) (map.len m + 1)) new
        ∙ omega (arith, len-from_entries es h.1)
