-- Gaps in a map in order, whose entries have the first address of each, and its last.
use Rattle.std.proofs.Common.{◌≡◌, ◌∙◌, ap, sym, refl, subst, ℕ, ◌+◌, ◌-◌, ◌<◌, ◌≤◌, ◌&&◌, ◌||◌, nat_le, not, inl, inr, Bool, true, false, cond, List, [], ◌∷◌, ◌++◌, length, drop, get_or, map, flat_map, arith}
use Rattle.std.proofs.lemmas.Bool.{cases_lt}
use Rattle.std.specs.BTreeMap.{insert_entry, is_at}
use Rattle.std.specs.BTreeMap.Range.{range_contains}
use Rattle.std.specs.Cmp.{nat_cmp_is}
use Rattle.std.specs.List.{filter}
use Rattle.std.specs.Map.{remove_entry}
use Rattle.std.specs.Ordering.{is_le, match_ordering, nat_cmp}
use Rattle.std.specs.declared.cmp.Ordering.TheVariants.{Less, Equal, Greater}
use Rattle.std.specs.declared.ops.Bound.TheVariants.{Excluded, Included, Unbounded}
use Rattle.std.proofs.lemmas.Bool.Decides.{nat_tests}
use Rattle.lpt_extract.specs.ClashesInside.{is_in}
use Rattle.lpt_extract.specs.CoversInside.{cut, is_apart, Ascend, IsBehind}
use Rattle.lpt_extract.specs.Gaps.{AreGaps, Gap}
use Rattle.lpt_extract.proofs.PartLemmas.{behind, both, drops, front, in_front, keeps, met}

abbrev pub gaps_at : List (ℕ × ℕ) → List Gap
gaps_at es = map (λ e. record { first = e.0; last = e.1 }) es

-- an entry in front of an address
abbrev is_early : (at k : ℕ) → Bool
is_early at k = range_contains nat_cmp Unbounded (Excluded at) k

early : (at k : ℕ) → k < at → is_early at k ≡ true
early at k h = ap (λ o. true && not (is_le o)) (sym (nat_cmp_is at k Greater h))

late : (at k : ℕ) → at ≤ k → is_early at k ≡ false
late at k h = elim (cases_lt at k) as (λ _. is_early at k ≡ false) [
  | inl l ↦ ap (λ o. true && not (is_le o)) (sym (nat_cmp_is at k Less l))
  | inr l ↦ ap (λ o. true && not (is_le o)) (sym (nat_cmp_is at k Equal (omega (arith, h, l))))
]

-- where an entry goes
goes_first : (k v : ℕ) (es : List (ℕ × ℕ))
    → k ≤ v
    → IsBehind v (gaps_at es)
    → insert_entry nat_cmp es k v ≡ (k, v) ∷ es
goes_first k v [] le b = refl
goes_first k v (e ∷ es) le b =
    ap (λ o. match_ordering o ((k, v) ∷ e ∷ es) ((e.0, v) ∷ es) (e ∷ insert_entry nat_cmp es k v))
    (sym (nat_cmp_is k e.0 Less (omega (arith, le, b))))

goes_on : (k v : ℕ) (e : ℕ × ℕ) (es : List (ℕ × ℕ))
    → e.0 < k
    → insert_entry nat_cmp (e ∷ es) k v ≡ e ∷ insert_entry nat_cmp es k v
goes_on k v e es less =
    ap (λ o. match_ordering o ((k, v) ∷ e ∷ es) ((e.0, v) ∷ es) (e ∷ insert_entry nat_cmp es k v))
    (sym (nat_cmp_is k e.0 Greater less))

goes_over : (k v : ℕ) (e : ℕ × ℕ) (es : List (ℕ × ℕ))
    → e.0 ≡ k
    → insert_entry nat_cmp (e ∷ es) k v ≡ (e.0, v) ∷ es
goes_over k v e es same =
    ap (λ o. match_ordering o ((k, v) ∷ e ∷ es) ((e.0, v) ∷ es) (e ∷ insert_entry nat_cmp es k v))
    (sym (nat_cmp_is k e.0 Equal (sym same)))

-- behind all
pub goes_last : (there : ℕ → Bool) (k e m v : ℕ) (es : List (ℕ × ℕ))
    → AreGaps there k e (gaps_at es)
    → e ≤ m
    → gaps_at (insert_entry nat_cmp es m v) ≡ gaps_at es ++ record { first = m; last = v } ∷ []
goes_last there k e m v [] h le = refl
goes_last there k e m v (x ∷ es) h le =
    ap gaps_at (goes_on m v x es (omega (arith, h.0.some, h.0.within, le)))
    ∙ ap (λ gs. record { first = x.0; last = x.1 } ∷ gs) (goes_last there (x.1 + 1) e m v es h.1 le)

or-false : (x : Bool) → (x || false) ≡ x
or-false true = refl
or-false false = refl

and-false : (x : Bool) → (x && false) ≡ false
and-false true = refl
and-false false = refl

module _ (at : ℕ) where
  -- none is early behind an address that isn't
  none_early : (n : ℕ) (es : List (ℕ × ℕ))
      → at ≤ n
      → Ascend (gaps_at es)
      → IsBehind n (gaps_at es)
      → filter (λ e. is_early at e.0) es ≡ []
  none_early n [] le h b = refl
  none_early n (e ∷ es) le h b =
      drops (λ e. is_early at e.0) e es (late at e.0 (omega (arith, le, b)))
      ∙ none_early e.1 es (omega (arith, le, b, h.0)) h.2 h.1

  -- and none is parted
  none_parted : (n : ℕ) (es : List (ℕ × ℕ))
      → at ≤ n
      → Ascend (gaps_at es)
      → IsBehind n (gaps_at es)
      → flat_map (cut at at) (gaps_at es) ≡ gaps_at es
  none_parted n [] le h b = refl
  none_parted n (e ∷ es) le h b =
      let g : Gap = record { first = e.0; last = e.1 } in
      λ i. behind at at g (omega arith) h.0 (omega (arith, le, b)) i
      ++ none_parted e.1 es (omega (arith, le, b, h.0)) h.2 h.1 i

  -- a list with a last element isn't empty
  no_last : {X : Type 0} (t : List X) (x : X) (Y : Type 0) → [] ≡ t ++ x ∷ [] → Y
  no_last [] x Y h = absurd (omega (arith, ap length h))
  no_last (y ∷ t) x Y h = absurd (omega (arith, ap length h))

  -- where none is early, none is parted
  pub stays_behind : (es : List (ℕ × ℕ))
      → Ascend (gaps_at es)
      → filter (λ e. is_early at e.0) es ≡ []
      → flat_map (cut at at) (gaps_at es) ≡ gaps_at es
  stays_behind [] h is = refl
  stays_behind (e ∷ es) h is = elim (cases_lt e.0 at) as (λ _. Goal) [
    | inl l ↦
        let first = keeps (λ e. is_early at e.0) e es (early at e.0 l) in
        absurd (omega (arith, ap length (sym first ∙ is)))
    | inr l ↦
        let g : Gap = record { first = e.0; last = e.1 } in
        λ i. behind at at g (omega arith) h.0 l i
        ++ none_parted e.1 es (omega (arith, l, h.0)) h.2 h.1 i
  ] where
    Goal : Type 0
    Goal = flat_map (cut at at) (gaps_at (e ∷ es)) ≡ gaps_at (e ∷ es)

  -- where none is early, the address in front is in none
  pub none_in : (n : ℕ) (es : List (ℕ × ℕ))
      → at ≡ n + 1
      → filter (λ e. is_early at e.0) es ≡ []
      → is_in (gaps_at es) n ≡ false
  none_in n [] next is = refl
  none_in n (e ∷ es) next is = elim (cases_lt e.0 at) as (λ _. is_in (gaps_at (e ∷ es)) n ≡ false) [
    | inl l ↦
        let first = keeps (λ e. is_early at e.0) e es (early at e.0 l) in
        absurd (omega (arith, ap length (sym first ∙ is)))
    | inr l ↦
        let later : nat_le e.0 n ≡ false = grind (arith, nat_tests, l, next) in
        (λ i. (later i && nat_le n e.1)
        || none_in n es next (sym (drops (λ e. is_early at e.0) e es (late at e.0 l)) ∙ is) i)
  ]

  -- which of the early ones is the last
  module _ (f l : ℕ) (low : f < at) where
    -- the first of the entries is early, and it is the last of these, or another one is
    first_early : (P : Type 0) (e : ℕ × ℕ) (es t : List (ℕ × ℕ))
        → Ascend (gaps_at (e ∷ es))
        → filter (λ e. is_early at e.0) (e ∷ es) ≡ t ++ (f, l) ∷ []
        → (e.0 ≡ f → e.1 ≡ l → filter (λ e. is_early at e.0) es ≡ [] → P)
        → ((u : List (ℕ × ℕ)) → e.0 < at → filter (λ e. is_early at e.0) es ≡ u ++ (f, l) ∷ [] → P)
        → P
    first_early P e es t h is this other = elim (cases_lt e.0 at) as (λ _. P) [
      | inr m ↦ no_last t (f, l) P
          (sym (drops (λ e. is_early at e.0) e es (late at e.0 m)
          ∙ none_early e.1 es (omega (arith, m, h.0)) h.2 h.1) ∙ is)
      | inl m ↦ split t (sym (keeps (λ e. is_early at e.0) e es (early at e.0 m)) ∙ is) m
    ] where
      split : (t : List (ℕ × ℕ))
          → e ∷ filter (λ e. is_early at e.0) es ≡ t ++ (f, l) ∷ []
          → e.0 < at
          → P
      split [] k m =
          this (ap (λ xs. (get_or xs 0 e).0) k) (ap (λ xs. (get_or xs 0 e).1) k) (ap (drop 1) k)
      split (x ∷ u) k m = other u m (ap (drop 1) k)

    -- it begins behind all in front of it
    last_behind : (n : ℕ) (es t : List (ℕ × ℕ))
        → Ascend (gaps_at es)
        → IsBehind n (gaps_at es)
        → filter (λ e. is_early at e.0) es ≡ t ++ (f, l) ∷ []
        → n < f
    last_behind n [] t h b is = no_last t (f, l) (n < f) is
    last_behind n (e ∷ es) t h b is =
        first_early (n < f) e es t h is (λ j k m. omega (arith, b, j))
        (λ u m k. omega (arith, b, h.0, last_behind e.1 es u h.2 h.1 k))

    -- where it ends in front of the address, none is parted
    pub stays_before : (es t : List (ℕ × ℕ))
        → Ascend (gaps_at es)
        → filter (λ e. is_early at e.0) es ≡ t ++ (f, l) ∷ []
        → l < at
        → flat_map (cut at at) (gaps_at es) ≡ gaps_at es
    stays_before [] t h is less = refl
    stays_before (e ∷ es) t h is less =
        let g : Gap = record { first = e.0; last = e.1 } in
        first_early (flat_map (cut at at) (gaps_at (e ∷ es)) ≡ gaps_at (e ∷ es)) e es t h is
        (λ j k m i. in_front at at g (omega arith) h.0 (omega (arith, k, less)) i
        ++ stays_behind es h.2 m i)
        (λ u m k i. in_front at at g (omega arith) h.0
        (omega (arith, low, last_behind e.1 es u h.2 h.1 k)) i
        ++ stays_before es u h.2 k less i)

    -- where the address is the next one, the last of them tells whether an address is in a gap
    pub last_has : (n : ℕ) (es t : List (ℕ × ℕ))
        → at ≡ n + 1
        → Ascend (gaps_at es)
        → filter (λ e. is_early at e.0) es ≡ t ++ (f, l) ∷ []
        → is_in (gaps_at es) n ≡ nat_le n l
    last_has n [] t next h is = no_last t (f, l) _ is
    last_has n (e ∷ es) t next h is =
        first_early (is_in (gaps_at (e ∷ es)) n ≡ nat_le n l) e es t h is
        (λ j k m.
        let starts : nat_le e.0 n ≡ true = grind (arith, nat_tests, j, low, next) in
        (λ i. (starts i && nat_le n (k i)) || none_in n es next m i) ∙ or-false (nat_le n l))
        (λ u m k.
        let before = last_behind e.1 es u h.2 h.1 k in
        let past : nat_le n e.1 ≡ false = grind (arith, nat_tests, before, low, next) in
        (λ i. (nat_le e.0 n && past i) || last_has n es u next h.2 k i)
        ∙ ap (λ t. t || nat_le n l) (and-false (nat_le e.0 n)))

    -- where it reaches over the address, it alone is parted
    pub is_parted : (es t : List (ℕ × ℕ))
        → Ascend (gaps_at es)
        → filter (λ e. is_early at e.0) es ≡ t ++ (f, l) ∷ []
        → at ≤ l
        → gaps_at (insert_entry nat_cmp (insert_entry nat_cmp es f (at - 1)) at l)
        ≡ flat_map (cut at at) (gaps_at es)
    is_parted [] t h is more = no_last t (f, l) _ is
    is_parted (e ∷ es) t h is more =
        let g : Gap = record { first = e.0; last = e.1 } in
        first_early (gaps_at (insert_entry nat_cmp (insert_entry nat_cmp (e ∷ es) f (at - 1)) at l)
        ≡ flat_map (cut at at) (gaps_at (e ∷ es))) e es t h is
        (λ j k m.
        ap (λ xs. gaps_at (insert_entry nat_cmp xs at l)) (goes_over f (at - 1) e es j)
        ∙ ap gaps_at (goes_on at l (e.0, at - 1) es (omega (arith, j, low)))
        ∙ ap (λ xs. gaps_at ((e.0, at - 1) ∷ xs))
        (goes_first at l es more (subst (λ n. IsBehind n (gaps_at es)) k h.1))
        ∙ ap (λ v. front at g ∷ record { first = at; last = v } ∷ gaps_at es) (sym k)
        ∙ sym (λ i. both at at (omega arith) g (omega (arith, j, low)) (omega (arith, k, more)) i
        ++ stays_behind es h.2 m i))
        (λ u m k.
        let n = last_behind e.1 es u h.2 h.1 k in
        ap (λ xs. gaps_at (insert_entry nat_cmp xs at l))
        (goes_on f (at - 1) e es (omega (arith, h.0, n)))
        ∙ ap gaps_at (goes_on at l e (insert_entry nat_cmp es f (at - 1)) m)
        ∙ ap (λ xs. g ∷ xs) (is_parted es u h.2 k more)
        ∙ sym (ap (λ xs. xs ++ flat_map (cut at at) (gaps_at es))
        (in_front at at g (omega arith) h.0 (omega (arith, low, n)))))

-- ---- those within an area are taken away

module _ (a b : ℕ) where
  -- one of them
  pub taken : (k : ℕ) (es : List (ℕ × ℕ))
      → a ≤ k
      → k < b
      → filter (is_apart a b) (gaps_at (remove_entry (is_at (nat_cmp k)) es))
      ≡ filter (is_apart a b) (gaps_at es)
  taken k [] le less = refl
  taken k (e ∷ es) le less = by (taken k es le less) (is_at (nat_cmp k) e.0) refl where
    g : Gap
    g = record { first = e.0; last = e.1 }

    by : filter (is_apart a b) (gaps_at (remove_entry (is_at (nat_cmp k)) es))
        ≡ filter (is_apart a b) (gaps_at es)
        → (t : Bool)
        → is_at (nat_cmp k) e.0 ≡ t
        → filter (is_apart a b) (gaps_at (cond t es (e ∷ remove_entry (is_at (nat_cmp k)) es)))
        ≡ filter (is_apart a b) (gaps_at (e ∷ es))
    by more true h =
        let same : e.0 ≡ k = grind (arith, h) in
        sym (drops (is_apart a b) g (gaps_at es)
        (met a b (omega (arith, le, less)) g (omega (arith, le, same)) (omega (arith, less, same))))
    by more false h = ap (λ xs. cond (is_apart a b g) (g ∷ xs) xs) more

  -- all of them
  pub none_left : (es : List (ℕ × ℕ))
      → filter (λ e. range_contains nat_cmp (Included a) (Excluded b) e.0) es ≡ []
      → filter (is_apart a b) (gaps_at es) ≡ gaps_at es
  none_left [] is = refl
  none_left (e ∷ es) is = by (none_left es) (p e) refl where
    g : Gap
    g = record { first = e.0; last = e.1 }

    p : (ℕ × ℕ) → Bool
    p = λ e. range_contains nat_cmp (Included a) (Excluded b) e.0

    by : (filter p es ≡ [] → filter (is_apart a b) (gaps_at es) ≡ gaps_at es)
        → (t : Bool)
        → p e ≡ t
        → filter (is_apart a b) (gaps_at (e ∷ es)) ≡ gaps_at (e ∷ es)
    by more true h = absurd (omega (arith, ap length (sym (keeps p e es h) ∙ is)))
    by more false h =
        let apart : is_apart a b g ≡ true = grind (arith, h) in
        keeps (is_apart a b) g (gaps_at es) apart
        ∙ ap (λ xs. g ∷ xs) (more (sym (drops p e es h) ∙ is))
