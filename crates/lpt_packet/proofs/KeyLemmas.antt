-- Lists of entries whose keys rise in an order, as a finite map has them: what is found in them. The
-- order is known by its facts alone.
use Rattle.std.proofs.Common.{Less, Equal, Greater, ◌≡◌, ◌≢◌, ◌∙◌, ap, sym, refl, inl, inr, ◌⊎◌, Bool, true, false, cond, ◌&&◌, T, List, [], ◌∷◌, Some}
use Rattle.std.specs.declared.cmp.Ordering.{Ordering}
use Rattle.std.specs.Ordering.{is_lt, is_eq, eq_by_cmp}
use Rattle.std.specs.Cmp.{IsTotalOrder, tied_itself}
use Rattle.std.specs.FinMap.{IsAntisymmetric}
use Rattle.std.specs.FinMap.Entries.{find, below_all, is_sorted}

-- the two halves of a test
pub first : (a b : Bool) → T (a && b) → T a
first true b h = tt
first false b h = h

pub second : (a b : Bool) → T (a && b) → T b
second true b h = h
second false b h = absurd h

-- each test, and so both
pub both : (a b : Bool) → T a → T b → T (a && b)
both true b g h = h
both false b g h = g

-- what is tested as less is less
pub less : (r : Ordering) → T (is_lt r) → r ≡ Less
less Less h = refl
less Equal h = absurd h
less Greater h = absurd h

module _ {K : Type 0} {R : K → K → Ordering} (total : IsTotalOrder R) (exact : IsAntisymmetric R)
  where
    -- a key is the same as another, and found, or it is neither
    pub same_or_not : (q k : K)
        → ((eq_by_cmp R q k ≡ true) × (q ≡ k)) ⊎ ((eq_by_cmp R q k ≡ false) × (q ≢ k))
    same_or_not q k = go (R q k) refl where
      itself : q ≡ k → R q k ≡ Equal
      itself e = ap (R q) (sym e) ∙ tied_itself total q

      go : (r : Ordering)
          → R q k ≡ r
          → ((eq_by_cmp R q k ≡ true) × (q ≡ k)) ⊎ ((eq_by_cmp R q k ≡ false) × (q ≢ k))
      go Less e = inr (ap is_eq e, λ same. let no : Less ≡ Equal = sym e ∙ itself same in cc)
      go Equal e = inl (ap is_eq e, exact q k e)
      go Greater e = inr (ap is_eq e, λ same. let no : Greater ≡ Equal = sym e ∙ itself same in cc)

    module _ {X : Type 0} where
      -- the first entry is found under its key
      pub found_first : (q : K) (e : K × X) (es : List (K × X))
          → q ≡ e.0
          → find R q (e ∷ es) ≡ Some e.1
      found_first q e es h = elim (same_or_not q e.0) [
        | inl w ↦ ap (λ b. cond b (Some e.1) (find R q es)) w.0
        | inr w ↦ absurd (w.1 h)
      ]

      -- another key is found behind it
      pub found_behind : (q : K) (e : K × X) (es : List (K × X))
          → q ≢ e.0
          → find R q (e ∷ es) ≡ find R q es
      found_behind q e es h = elim (same_or_not q e.0) [
        | inl w ↦ absurd (h w.1)
        | inr w ↦ ap (λ b. cond b (Some e.1) (find R q es)) w.0
      ]

      -- what is found is the first entry or stands behind it
      pub found_cases : (q : K) (y : X) (e : K × X) (es : List (K × X))
          → find R q (e ∷ es) ≡ Some y
          → ((q ≡ e.0) × (y ≡ e.1)) ⊎ ((q ≢ e.0) × (find R q es ≡ Some y))
      found_cases q y e es h = elim (same_or_not q e.0) [
        | inl w ↦ let here = found_first q e es w.1 in inl (w.1, cc)
        | inr w ↦ inr (w.1, sym (found_behind q e es w.1) ∙ h)
      ]

      -- what is found behind a key is above it
      pub found_above : (k q : K) (y : X) (es : List (K × X))
          → T (below_all R k es)
          → find R q es ≡ Some y
          → R k q ≡ Less
      found_above k q y [] low h = absurd cc
      found_above k q y (e ∷ es) low h = elim (found_cases q y e es h) [
        | inl w ↦ ap (R k) w.0 ∙ less (R k e.0) (first (is_lt (R k e.0)) (below_all R k es) low)
        | inr w ↦ found_above k q y es (second (is_lt (R k e.0)) (below_all R k es) low) w.1
      ]

      -- what is found behind the first entry is found with it in front
      pub found_still : (q : K) (y : X) (e : K × X) (es : List (K × X))
          → T (is_sorted R (e ∷ es))
          → find R q es ≡ Some y
          → find R q (e ∷ es) ≡ Some y
      found_still q y e es up h =
          let above : R e.0 q ≡ Less =
          found_above e.0 q y es (first (below_all R e.0 es) (is_sorted R es) up) h in
          found_behind q e es (λ same.
          let tied : R e.0 q ≡ Equal = ap (R e.0) same ∙ tied_itself total e.0 in absurd cc) ∙ h
