-- The gaps of areas, and of one more.
use Rattle.std.proofs.Common.{◌≡◌, ◌∙◌, ap, sym, subst, refl, ℕ, ◌-◌, ◌<◌, ◌≤◌, ◌||◌, inl, inr, max, Bool, true, false, List, [], ◌∷◌, ◌++◌, flat_map, arith}
use Rattle.std.proofs.lemmas.Bool.{cases_lt}
use Rattle.std.proofs.lemmas.List.Folds.{list_any-append}
use Rattle.lpt_memory.specs.declared.request.Area.{Area}
use Rattle.lpt_extract.specs.declared.cover.Cover.{Cover}
use Rattle.lpt_extract.specs.Areas.{end_of, extent}
use Rattle.lpt_extract.specs.CoversInside.{cut, end_of_cover, gaps_of, Covers}
use Rattle.lpt_extract.specs.Gaps.{has, is_given, AreGaps}
use Rattle.lpt_extract.proofs.GapLemmas.{cut-gaps, push-gap}
use Rattle.lpt_extract.proofs.ImageLemmas.{extent-more}

-- ---- which addresses are given

-- none where no area ends
pub none-behind : (areas : List Area) (n : ℕ) → extent areas ≤ n → is_given areas n ≡ false
none-behind [] n h = refl
none-behind (a ∷ areas) n h =
    let first : has a n ≡ false = grind (arith, h) in
    ap (λ x. x || is_given areas n) first ∙ none-behind areas n (omega (arith, h))

-- those of one area more
given-more : (areas : List Area) (a : Area) (n : ℕ) → is_given (areas ++ a ∷ []) n ≡ (is_given areas n || (has a n || false))
given-more areas a n = list_any-append (λ a. has a n) areas (a ∷ [])

or-false : (x : Bool) → (x || false) ≡ x
or-false true = refl
or-false false = refl

or-true : (x : Bool) → (x || true) ≡ true
or-true true = refl
or-true false = refl

module _ (areas : List Area) (a : Area) where
  given-within : (n : ℕ) → a.address ≤ n → n < end_of a → is_given (areas ++ a ∷ []) n ≡ true
  given-within n c d =
      let mine : has a n ≡ true = grind (arith, c, d) in
      given-more areas a n ∙ ap (λ x. is_given areas n || (x || false)) mine ∙ or-true (is_given areas n)

  given-else : (n : ℕ) → has a n ≡ false → is_given (areas ++ a ∷ []) n ≡ is_given areas n
  given-else n h =
      given-more areas a n ∙ ap (λ x. is_given areas n || (x || false)) h ∙ or-false (is_given areas n)

  given-below : (n : ℕ) → n < a.address → is_given (areas ++ a ∷ []) n ≡ is_given areas n
  given-below n c = given-else n (grind (arith, c))

  given-above : (n : ℕ) → end_of a ≤ n → is_given (areas ++ a ∷ []) n ≡ is_given areas n
  given-above n c = given-else n (grind (arith, c))

  -- ---- one more

  module _ (from : ℕ) (c d : Cover) (was : Covers from areas c) (some : a.address < end_of a)
      (end : end_of_cover d ≡ max (end_of_cover c) (end_of a)) where
    ends : extent (areas ++ a ∷ []) ≡ max (extent areas) (end_of a)
    ends = extent-more areas a

    last-given : from < extent (areas ++ a ∷ []) → is_given (areas ++ a ∷ []) (extent (areas ++ a ∷ []) - 1) ≡ true
    last-given less =
        let top = extent (areas ++ a ∷ []) in
        elim (cases_lt (end_of a) (extent areas)) as (λ x. is_given (areas ++ a ∷ []) (top - 1) ≡ true) [
          | inl l ↦
              let same : extent (areas ++ a ∷ []) ≡ extent areas = omega (arith, l, ends) in
              ap (λ n. is_given (areas ++ a ∷ []) (n - 1)) same
              ∙ given-above (extent areas - 1) (omega (arith, l))
              ∙ was.reached (omega (arith, same, less))
          | inr l ↦
              let same : extent (areas ++ a ∷ []) ≡ end_of a = omega (arith, l, ends) in
              given-within (extent (areas ++ a ∷ []) - 1) (omega (arith, same, some)) (omega (arith, same, some))
        ]

    -- which isn't behind all others
    pub covers-cut : a.address ≤ max (end_of_cover c) from
        → gaps_of d ≡ flat_map (cut a.address (end_of a)) (gaps_of c)
        → Covers from (areas ++ a ∷ []) d
    covers-cut early gaps = record {
      end_is = end ∙ ap (λ e. max e (end_of a)) was.end_is ∙ sym ends;
      gaps_are = subst (AreGaps (is_given (areas ++ a ∷ [])) from (extent (areas ++ a ∷ []))) (sym gaps)
          (cut-gaps (is_given areas) (is_given (areas ++ a ∷ [])) a.address (end_of a) some
          given-within given-below given-above from (extent areas) (extent (areas ++ a ∷ [])) (gaps_of c)
          was.gaps_are (omega (arith, ends))
          (λ n k l m. given-within n (omega (arith, early, was.end_is, k, l)) (omega (arith, ends, l, m))));
      reached = last-given;
    }

    -- which is
    pub covers-push : max (end_of_cover c) from < a.address
        → gaps_of d ≡ gaps_of c ++ record { first = max (end_of_cover c) from; last = a.address - 1 } ∷ []
        → Covers from (areas ++ a ∷ []) d
    covers-push late gaps = record {
      end_is = end ∙ ap (λ e. max e (end_of a)) was.end_is ∙ sym ends;
      gaps_are = subst (AreGaps (is_given (areas ++ a ∷ [])) from (extent (areas ++ a ∷ []))) (sym gaps)
          (subst (λ e. AreGaps (is_given (areas ++ a ∷ [])) from e
          (gaps_of c ++ record { first = max (end_of_cover c) from; last = a.address - 1 } ∷ []))
          (omega (arith, ends, late, some, was.end_is))
          (push-gap (is_given areas) (is_given (areas ++ a ∷ [])) a.address (end_of a) some
          given-within given-below given-above from (extent areas) (max (end_of_cover c) from) (gaps_of c)
          was.gaps_are (omega (arith, was.end_is)) late (none-behind areas) was.reached));
      reached = last-given;
    }
