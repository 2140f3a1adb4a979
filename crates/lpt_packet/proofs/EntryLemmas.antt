-- Lists of entries whose keys are numbers and rise, as a finite map has them: what is found in them, and
-- what a test of each tells.
use Rattle.std.proofs.Common.{Less, Equal, Greater, ◌≡◌, ◌≢◌, ◌∙◌, ap, sym, refl, inl, inr, ◌⊎◌, ℕ, ◌<◌, Bool, true, false, ◌&&◌, ◌||◌, T, List, [], ◌∷◌, Some, arith}
use Rattle.std.specs.List.{list_any}
use Rattle.std.specs.Ordering.{nat_cmp, is_lt}
use Rattle.std.specs.Cmp.{nat_cmp_total, ranked, nat_cmp_is}
use Rattle.std.specs.FinMap.{nat_cmp-IsAntisymmetric}
use Rattle.std.specs.FinMap.Entries.{find, put, by_order, below_all, is_sorted}
use Rattle.std.proofs.lemmas.Bool.{or_parts}
use Rattle.lpt_packet.proofs.KeyLemmas as keys
use Rattle.lpt_packet.proofs.KeyLemmas.{first, second, both}

-- ---- the order

less : (a b : ℕ) → T (is_lt (nat_cmp a b)) → a < b
less a b h =
    elim (nat_cmp a b) as (λ r. r ≡ nat_cmp a b → T (is_lt r) → a < b) [
      | Less ↦ λ e _. ranked a b Less e
      | Equal ↦ λ e g. absurd g
      | Greater ↦ λ e g. absurd g
    ] refl h

compared : (a b : ℕ) → a < b → T (is_lt (nat_cmp a b))
compared a b h =
    elim (nat_cmp a b) as (λ r. r ≡ nat_cmp a b → T (is_lt r)) [
      | Less ↦ λ e. tt
      | Equal ↦ λ e. let same : a ≡ b = ranked a b Equal e in absurd (omega arith)
      | Greater ↦ λ e. let above : b < a = ranked a b Greater e in absurd (omega arith)
    ] refl

-- ---- what is found

module _ {X : Type 0} where
  -- the first entry of a list above k is above k
  pub low_first : (k : ℕ) (e : ℕ × X) (es : List (ℕ × X))
      → T (below_all nat_cmp k (e ∷ es))
      → k < e.0
  low_first k e es low = less k e.0 (first (is_lt (nat_cmp k e.0)) (below_all nat_cmp k es) low)

  -- and so is what stands behind it
  pub low_rest : (k : ℕ) (e : ℕ × X) (es : List (ℕ × X))
      → T (below_all nat_cmp k (e ∷ es))
      → T (below_all nat_cmp k es)
  low_rest k e es low = second (is_lt (nat_cmp k e.0)) (below_all nat_cmp k es) low

  -- what stands behind an entry is above it
  pub up_low : (e : ℕ × X) (es : List (ℕ × X))
      → T (is_sorted nat_cmp (e ∷ es))
      → T (below_all nat_cmp e.0 es)
  up_low e es up = first (below_all nat_cmp e.0 es) (is_sorted nat_cmp es) up

  -- and in order
  pub up_rest : (e : ℕ × X) (es : List (ℕ × X))
      → T (is_sorted nat_cmp (e ∷ es))
      → T (is_sorted nat_cmp es)
  up_rest e es up = second (below_all nat_cmp e.0 es) (is_sorted nat_cmp es) up

  -- the first entry is found under its number
  pub found_first : (q : ℕ) (e : ℕ × X) (es : List (ℕ × X))
      → q ≡ e.0
      → find nat_cmp q (e ∷ es) ≡ Some e.1
  found_first = keys.found_first nat_cmp_total nat_cmp-IsAntisymmetric

  -- another number is found behind it
  pub found_behind : (q : ℕ) (e : ℕ × X) (es : List (ℕ × X))
      → q ≢ e.0
      → find nat_cmp q (e ∷ es) ≡ find nat_cmp q es
  found_behind = keys.found_behind nat_cmp_total nat_cmp-IsAntisymmetric

  -- what is found is the first entry or stands behind it
  pub found_cases : (q : ℕ) (y : X) (e : ℕ × X) (es : List (ℕ × X))
      → find nat_cmp q (e ∷ es) ≡ Some y
      → ((q ≡ e.0) × (y ≡ e.1)) ⊎ ((q ≢ e.0) × (find nat_cmp q es ≡ Some y))
  found_cases = keys.found_cases nat_cmp_total nat_cmp-IsAntisymmetric

  -- what is found behind a number is above it
  pub found_above : (k q : ℕ) (y : X) (es : List (ℕ × X))
      → T (below_all nat_cmp k es)
      → find nat_cmp q es ≡ Some y
      → k < q
  found_above k q y es low h =
      ranked k q Less (sym (keys.found_above nat_cmp_total nat_cmp-IsAntisymmetric k q y es low h))

  -- what is found behind the first entry is found with it in front
  pub found_still : (q : ℕ) (y : X) (e : ℕ × X) (es : List (ℕ × X))
      → T (is_sorted nat_cmp (e ∷ es))
      → find nat_cmp q es ≡ Some y
      → find nat_cmp q (e ∷ es) ≡ Some y
  found_still = keys.found_still nat_cmp_total nat_cmp-IsAntisymmetric

  -- numbers that are found above k are all above k
  pub all_above : (k : ℕ) (es : List (ℕ × X))
      → T (is_sorted nat_cmp es)
      → ((q : ℕ) (y : X) → find nat_cmp q es ≡ Some y → k < q)
      → T (below_all nat_cmp k es)
  all_above k [] up low = tt
  all_above k (e ∷ es) up low =
      both (is_lt (nat_cmp k e.0)) (below_all nat_cmp k es)
      (compared k e.0 (low e.0 e.1 (found_first e.0 e es refl)))
      (all_above k es (up_rest e es up) (λ q y h. low q y (found_still q y e es up h)))

  -- ---- a test of each entry

  -- where no entry passes, none that is found does
  pub none_passes : (p : ℕ × X → Bool) (es : List (ℕ × X)) (q : ℕ) (y : X)
      → list_any p es ≡ false
      → find nat_cmp q es ≡ Some y
      → p (q, y) ≡ false
  none_passes p [] q y none h = absurd cc
  none_passes p (e ∷ es) q y none h =
      let parts = or_parts (p e) (list_any p es) none in
      elim (found_cases q y e es h) [
        | inl w ↦ ap p (λ i. (w.0 i, w.1 i)) ∙ parts.0
        | inr w ↦ none_passes p es q y parts.1 w.1
      ]

  -- where none that is found passes, no entry does
  pub passes_none : (p : ℕ × X → Bool) (es : List (ℕ × X))
      → T (is_sorted nat_cmp es)
      → ((q : ℕ) (y : X) → find nat_cmp q es ≡ Some y → p (q, y) ≡ false)
      → list_any p es ≡ false
  passes_none p [] up none = refl
  passes_none p (e ∷ es) up none =
      ap (λ b. b || list_any p es) (none e.0 e.1 (found_first e.0 e es refl))
      ∙ passes_none p es (up_rest e es up) (λ q y h. none q y (found_still q y e es up h))

  -- where an entry passes, one that passes is found
  pub passes_some : (p : ℕ × X → Bool) (es : List (ℕ × X))
      → T (is_sorted nat_cmp es)
      → list_any p es ≡ true
      → (q : ℕ) × (y : X) × (find nat_cmp q es ≡ Some y) × (p (q, y) ≡ true)
  passes_some p [] up h = absurd cc
  passes_some p (e ∷ es) up h =
      elim (p e) as (λ b. p e ≡ b → (b || list_any p es) ≡ true
      → (q : ℕ) × (y : X) × (find nat_cmp q (e ∷ es) ≡ Some y) × (p (q, y) ≡ true)) [
        | true ↦ λ is _. (e.0, e.1, found_first e.0 e es refl, is)
        | false ↦ λ _ rest.
            let w = passes_some p es (up_rest e es up) rest in
            (w.0, w.1, found_still w.0 w.1 e es up w.2, w.3)
      ] refl h

  -- ---- a new entry

  -- a number below the first goes in front
  pub put_in_front : (n : ℕ) (x : X) (e : ℕ × X) (es : List (ℕ × X))
      → n < e.0
      → put nat_cmp n x (e ∷ es) ≡ (n, x) ∷ e ∷ es
  put_in_front n x e es h =
      ap (λ r. by_order r ((n, x) ∷ e ∷ es) ((e.0, x) ∷ es) (e ∷ put nat_cmp n x es))
      (sym (nat_cmp_is n e.0 Less h))

  -- a number above the first goes behind it
  pub put_behind : (n : ℕ) (x : X) (e : ℕ × X) (es : List (ℕ × X))
      → e.0 < n
      → put nat_cmp n x (e ∷ es) ≡ e ∷ put nat_cmp n x es
  put_behind n x e es h =
      ap (λ r. by_order r ((n, x) ∷ e ∷ es) ((e.0, x) ∷ es) (e ∷ put nat_cmp n x es))
      (sym (nat_cmp_is n e.0 Greater h))
