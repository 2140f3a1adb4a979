-- For which addresses areas gave different octets, and one area more.
use Rattle.std.proofs.Common.{◌≡◌, ◌∙◌, ap, sym, refl, subst, ℕ, ◌+◌, ◌-◌, ◌<◌, ◌≤◌, ◌==◌, ◌||◌}
use Rattle.std.proofs.Common.{◌&&◌}
use Rattle.std.proofs.Common.{inl, inr, nat_lt, nat_le, not, Bool, true, false, if◌then◌else◌}
use Rattle.std.proofs.Common.{List, [], ◌∷◌, ◌++◌}
use Rattle.std.proofs.Common.{length, take, drop, get_or, replicate, append_assoc, append-nil}
use Rattle.std.proofs.Common.{arith}
use Rattle.std.proofs.lemmas.Bool.{cases_lt}
use Rattle.std.proofs.lemmas.Bool.Decides.{nat_tests}
use Rattle.std.proofs.lemmas.List.Folds.{list_any-append}
use Rattle.std.proofs.lemmas.List.{get_or_append_left, get_or-append_right, get_or-drop}
use Rattle.std.proofs.lemmas.List.{get_or-take, length-take, length-drop, length-replicate}
use Rattle.lpt_memory.specs.declared.request.Area.{Area}
use Rattle.lpt_memory.specs.Memories.{put_at, put_all}
use Rattle.lpt_memory.specs.Ranges.{AreasFit}
use Rattle.lpt_extract.specs.Areas.{end_of, extent, image}
use Rattle.lpt_extract.specs.Clashes.{cover_of, AreTold}
use Rattle.lpt_extract.specs.ClashesInside.{is_in, is_other, is_unlike, Tells}
use Rattle.lpt_extract.specs.Contradictions.{octets_for, differ, is_contradicted}
use Rattle.lpt_extract.specs.CoversInside.{end_of_cover, gaps_of, Covers}
use Rattle.lpt_extract.specs.Gaps.{has, is_given, AreGaps, Gap}
use Rattle.lpt_extract.specs.declared.clashes.Clashes.{Clashes}
use Rattle.lpt_extract.proofs.CoverLemmas.{none-behind}
use Rattle.lpt_extract.proofs.ImageLemmas.{extent-fits, fit-put_at, length-put_all}

-- ---- truth values

or-false : (x : Bool) → (x || false) ≡ x
or-false true = refl
or-false false = refl

and-false : (x : Bool) → (x && false) ≡ false
and-false true = refl
and-false false = refl

-- ---- addresses in gaps

-- none in front of where they begin
before-gaps : (there : ℕ → Bool) (k e n : ℕ) (gaps : List Gap)
    → AreGaps there k e gaps
    → n < k
    → is_in gaps n ≡ false
before-gaps there k e n [] h less = refl
before-gaps there k e n (g ∷ gaps) h less =
    let off : nat_le g.first n ≡ false = grind (arith, nat_tests, less, h.0.from) in
    (λ i. (off i && nat_le n g.last)
    || before-gaps there (g.last + 1) e n gaps h.1 (omega (arith, less, h.0.from, h.0.some)) i)

-- those that aren't there
pub in-gaps : (there : ℕ → Bool) (k e n : ℕ) (gaps : List Gap)
    → AreGaps there k e gaps
    → k ≤ n
    → n < e
    → is_in gaps n ≡ not (there n)
in-gaps there k e n [] h from to = sym (ap not (h n from to))
in-gaps there k e n (g ∷ gaps) h from to = elim (cases_lt n g.first) as (λ _. Goal) [
  | inl c ↦
      let off : nat_le g.first n ≡ false = grind (arith, nat_tests, c) in
      (λ i. (off i && nat_le n g.last)
      || before-gaps there (g.last + 1) e n gaps h.1 (omega (arith, c, h.0.some)) i)
      ∙ sym (ap not (h.0.before n from c))
  | inr c ↦ elim (cases_lt g.last n) as (λ _. Goal) [
    | inl d ↦
        let off : nat_le n g.last ≡ false = grind (arith, nat_tests, d) in
        (λ i. (nat_le g.first n && off i) || is_in gaps n)
        ∙ ap (λ t. t || is_in gaps n) (and-false (nat_le g.first n))
        ∙ in-gaps there (g.last + 1) e n gaps h.1 (omega (arith, d)) to
    | inr d ↦
        let yes : nat_le g.first n ≡ true = grind (arith, nat_tests, c) in
        let too : nat_le n g.last ≡ true = grind (arith, nat_tests, d) in
        (λ i. (yes i && too i) || is_in gaps n)
        ∙ sym (ap not (h.0.missing n c (omega (arith, d))))
  ]
] where
  Goal : Type 0
  Goal = is_in (g ∷ gaps) n ≡ not (there n)

-- ---- the octets that came for an address

-- whether there are some
abbrev some : List ℕ → Bool
some [] = false
some (x ∷ xs) = true

-- the last of them, or another
abbrev last_of : ℕ → List ℕ → ℕ
last_of d [] = d
last_of d (x ∷ xs) = last_of x xs

last-other : (d e : ℕ) (xs : List ℕ) → some xs ≡ true → last_of d xs ≡ last_of e xs
last-other d e [] h = absurd cc
last-other d e (x ∷ xs) h = refl

-- one more differs from those before, or from the last of them
differ-more : (d y : ℕ) (xs : List ℕ)
    → differ (xs ++ y ∷ []) ≡ (differ xs || (some xs && not (last_of d xs == y)))
differ-more d y [] = refl
differ-more d y (x ∷ []) = or-false (not (x == y))
differ-more d y (x ∷ (z ∷ xs)) =
    ap (λ t. not (x == z) || t) (differ-more x y (z ∷ xs))
    ∙ assoc (not (x == z)) (differ (z ∷ xs)) (not (last_of z xs == y)) where
      assoc : (p q r : Bool) → (p || (q || r)) ≡ ((p || q) || r)
      assoc true q r = refl
      assoc false q r = refl

-- an octet that an area gives
abbrev one_for : ℕ → Area → List ℕ
one_for n a = if has a n then get_or a.octets (n - a.address) 0 ∷ [] else []

octets-more : (n : ℕ) (areas : List Area) (a : Area)
    → octets_for n (areas ++ a ∷ []) ≡ octets_for n areas ++ one_for n a
octets-more n [] a = append-nil (one_for n a)
octets-more n (b ∷ areas) a =
    ap (λ xs. one_for n b ++ xs) (octets-more n areas a)
    ∙ sym (append_assoc (one_for n b) (octets_for n areas) (one_for n a))

-- there are some where one is given
given-some : (n : ℕ) (areas : List Area) → is_given areas n ≡ some (octets_for n areas)
given-some n [] = refl
given-some n (a ∷ areas) = go (has a n) (given-some n areas) where
  go : (t : Bool) → is_given areas n ≡ some (octets_for n areas) → (t || is_given areas n)
      ≡ some ((if t then get_or a.octets (n - a.address) 0 ∷ [] else []) ++ octets_for n areas)
  go true h = refl
  go false h = h

-- ---- what stands at an address

put-get : (content : List ℕ) (a : Area) (n : ℕ)
    → end_of a ≤ length content
    → get_or (put_at content a.address a.octets) n 0 ≡ last_of (get_or content n 0) (one_for n a)
put-get content a n fit = elim (cases_lt n at) as (λ _. Goal) [
  | inl c ↦
      let off : has a n ≡ false = grind (arith, nat_tests, c) in
      regrouped
      ∙ get_or_append_left (take at content) (octets ++ rest) 0 n
      (omega (arith, length-take at content, fit, c))
      ∙ get_or-take at content n 0 c
      ∙ sym (ap (λ t. last_of (get_or content n 0)
      (if t then get_or octets (n - at) 0 ∷ [] else [])) off)
  | inr c ↦ elim (cases_lt n (end_of a)) as (λ _. Goal) [
    | inl d ↦
        let yes : has a n ≡ true = grind (arith, nat_tests, c, d) in
        regrouped
        ∙ get_or-append_right (take at content) (octets ++ rest) at n 0 front c
        ∙ get_or_append_left octets rest 0 (n - at) (omega (arith, c, d))
        ∙ sym (ap (λ t. last_of (get_or content n 0)
        (if t then get_or octets (n - at) 0 ∷ [] else [])) yes)
    | inr d ↦
        let off : has a n ≡ false = grind (arith, nat_tests, d) in
        let place : at + length octets + (n - at - length octets) ≡ n = omega (arith, d) in
        regrouped
        ∙ get_or-append_right (take at content) (octets ++ rest) at n 0 front c
        ∙ get_or-append_right octets rest (length octets) (n - at) 0 refl (omega (arith, d))
        ∙ get_or-drop (at + length octets) content (n - at - length octets) 0
        ∙ ap (λ (k : ℕ). get_or content k 0) place
        ∙ sym (ap (λ t. last_of (get_or content n 0)
        (if t then get_or octets (n - at) 0 ∷ [] else [])) off)
  ]
] where
  at : ℕ
  at = a.address

  octets : List ℕ
  octets = a.octets

  rest : List ℕ
  rest = drop (at + length octets) content

  front : length (take at content) ≡ at
  front = omega (arith, length-take at content, fit)

  regrouped : get_or (put_at content at octets) n 0
      ≡ get_or (take at content ++ (octets ++ rest)) n 0
  regrouped = ap (λ (xs : List ℕ). get_or xs n 0) (append_assoc (take at content) octets rest)

  Goal : Type 0
  Goal = get_or (put_at content a.address a.octets) n 0 ≡ last_of (get_or content n 0) (one_for n a)

last-append : (d : ℕ) (xs ys : List ℕ) → last_of d (xs ++ ys) ≡ last_of (last_of d xs) ys
last-append d [] ys = refl
last-append d (x ∷ xs) ys = last-append x xs ys

put_all-get : (content : List ℕ) (areas : List Area) (n : ℕ)
    → AreasFit (length content) areas
    → get_or (put_all content areas) n 0 ≡ last_of (get_or content n 0) (octets_for n areas)
put_all-get content [] n fit = refl
put_all-get content (a ∷ areas) n fit =
    put_all-get (put_at content a.address a.octets) areas n (fit-put_at content a areas fit)
    ∙ ap (λ d. last_of d (octets_for n areas)) (put-get content a n fit.0)
    ∙ sym (last-append (get_or content n 0) (one_for n a) (octets_for n areas))

length-image : (from fill : ℕ) (areas : List Area)
    → length (image from fill areas) ≡ extent areas - from
unfolding image
length-image from fill areas =
    let e = extent areas in
    let long : length (replicate {A = ℕ} e fill) ≡ e = length-replicate e fill in
    let fit = extent-fits (length (replicate {A = ℕ} e fill)) areas (omega (arith, long)) in
    let size = length-put_all (replicate e fill) areas fit in
    let left = length-drop from (put_all (replicate e fill) areas) in
    omega (arith, long, size, left)

image-get : (from fill : ℕ) (areas : List Area) (n : ℕ)
    → from ≤ n
    → some (octets_for n areas) ≡ true
    → get_or (image from fill areas) (n - from) 0 ≡ last_of 0 (octets_for n areas)
unfolding image
image-get from fill areas n le came =
    let e = extent areas in
    let base = replicate {A = ℕ} e fill in
    let long : length base ≡ e = length-replicate e fill in
    let place : from + (n - from) ≡ n = omega (arith, le) in
    get_or-drop from (put_all base areas) (n - from) 0
    ∙ ap (λ (k : ℕ). get_or (put_all base areas) k 0) place
    ∙ put_all-get base areas n (extent-fits (length base) areas (omega (arith, long)))
    ∙ last-other (get_or base n 0) 0 (octets_for n areas) came

-- ---- one area more

module _ (from fill : ℕ) (areas : List Area) (a : Area) (standing : List ℕ) (gaps : List Gap)
    (is : standing ≡ image from fill areas)
    (are : AreGaps (is_given areas) from (extent areas) gaps) where
  -- an octet of it differs from the last one that came
  other-is : (n y : ℕ)
      → from ≤ n
      → (nat_lt (n - from) (length standing)
      && (not (get_or standing (n - from) 0 == y) && not (is_in gaps n)))
      ≡ (some (octets_for n areas) && not (last_of 0 (octets_for n areas) == y))
  other-is n y le = elim (cases_lt n (extent areas)) as (λ _. Goal) [
    | inl c ↦
        let near : nat_lt (n - from) (length standing) ≡ true =
        grind (arith, nat_tests, size, c, le) in
        (λ i. near i && (not (get_or standing (n - from) 0 == y) && not (gap c i)))
        ∙ go (some (octets_for n areas)) refl
    | inr c ↦
        let far : nat_lt (n - from) (length standing) ≡ false =
        grind (arith, nat_tests, size, c, le) in
        let none : some (octets_for n areas) ≡ false =
        sym (given-some n areas) ∙ none-behind areas n c in
        (λ i. far i && (not (get_or standing (n - from) 0 == y) && not (is_in gaps n)))
        ∙ sym (λ i. none i && not (last_of 0 (octets_for n areas) == y))
  ] where
    Goal : Type 0
    Goal = (nat_lt (n - from) (length standing)
        && (not (get_or standing (n - from) 0 == y) && not (is_in gaps n)))
        ≡ (some (octets_for n areas) && not (last_of 0 (octets_for n areas) == y))

    size : length standing ≡ extent areas - from
    size = ap length is ∙ length-image from fill areas

    gap : n < extent areas → is_in gaps n ≡ not (some (octets_for n areas))
    gap c =
        in-gaps (is_given areas) from (extent areas) n gaps are le c
        ∙ ap not (given-some n areas)

    go : (t : Bool) → some (octets_for n areas) ≡ t
        → (not (get_or standing (n - from) 0 == y) && not (not (some (octets_for n areas))))
        ≡ (some (octets_for n areas) && not (last_of 0 (octets_for n areas) == y))
    go false e =
        (λ i. not (get_or standing (n - from) 0 == y) && not (not (e i)))
        ∙ and-false (not (get_or standing (n - from) 0 == y))
        ∙ sym (λ i. e i && not (last_of 0 (octets_for n areas) == y))
    go true e =
        let same : get_or standing (n - from) 0 ≡ last_of 0 (octets_for n areas) =
        ap (λ (o : List ℕ). get_or o (n - from) 0) is ∙ image-get from fill areas n le e in
        (λ i. not (same i == y) && not (not (e i)))
        ∙ and-true (not (last_of 0 (octets_for n areas) == y))
        ∙ sym (λ i. e i && not (last_of 0 (octets_for n areas) == y))
      where
        and-true : (x : Bool) → (x && true) ≡ x
        and-true true = refl
        and-true false = refl

  pub contradicted-more : (n : ℕ)
      → is_contradicted from (areas ++ a ∷ []) n
      ≡ (is_contradicted from areas n || is_unlike from standing gaps a n)
  contradicted-more n =
      ap (λ xs. nat_le from n && differ xs) (octets-more n areas a)
      ∙ go (has a n) (nat_le from n) refl where
        y : ℕ
        y = get_or a.octets (n - a.address) 0

        go : (t s : Bool) → nat_le from n ≡ s
            → (nat_le from n && differ (octets_for n areas ++ (if t then y ∷ [] else [])))
            ≡ ((nat_le from n && differ (octets_for n areas))
            || (t && is_other from standing gaps n y))
        go false s e =
            ap (λ xs. nat_le from n && differ xs) (append-nil (octets_for n areas))
            ∙ sym (or-false (nat_le from n && differ (octets_for n areas)))
        go true false e =
            (λ i. e i && differ (octets_for n areas ++ y ∷ []))
            ∙ sym (λ i. (e i && differ (octets_for n areas)) || (e i
            && (nat_lt (n - from) (length standing)
            && (not (get_or standing (n - from) 0 == y) && not (is_in gaps n)))))
        go true true e =
            let le : from ≤ n = grind (arith, nat_tests, e) in
            (λ i. e i && differ (octets_for n areas ++ y ∷ []))
            ∙ differ-more 0 y (octets_for n areas)
            ∙ ap (λ t. differ (octets_for n areas) || t) (sym (other-is n y le))
            ∙ sym (λ i. (e i && differ (octets_for n areas)) || (e i
            && (nat_lt (n - from) (length standing)
            && (not (get_or standing (n - from) 0 == y) && not (is_in gaps n)))))

  -- what is told of it
  pub tells-more : (c d : Clashes) → (h : Tells from areas c)
      → (more : List Area) × Covers 0 (h.told ++ more) (cover_of d)
      × ((n : ℕ) → is_given more n ≡ is_unlike from standing gaps a n)
      → Tells from (areas ++ a ∷ []) d
  tells-more c d h noted = record {
    told = h.told ++ noted.0;
    covers = noted.1;
    are = λ n. list_any-append (λ a. has a n) h.told noted.0
        ∙ (λ i. h.are n i || noted.2 n i)
        ∙ sym (contradicted-more n);
  }

-- of no areas nothing is told
pub tells-none : (from : ℕ) (c : Clashes) → Covers 0 [] (cover_of c) → Tells from [] c
tells-none from c h = record { told = []; covers = h; are = λ n. sym (and-false (nat_le from n)) }

-- what is told are the addresses between the gaps of the rest
pub told-are : (from : ℕ) (areas : List Area) (c : Clashes)
    → Tells from areas c
    → AreTold from areas c
told-are from areas c h = record {
  alike = subst (λ (there : ℕ → Bool).
      AreGaps there 0 (end_of_cover (cover_of c)) (gaps_of (cover_of c)))
      (λ i n. h.are n i)
      (subst (λ e. AreGaps (is_given h.told) 0 e (gaps_of (cover_of c)))
      (sym h.covers.end_is) h.covers.gaps_are);
  behind = λ n more. sym (h.are n) ∙ none-behind h.told n (omega (arith, h.covers.end_is, more));
}
