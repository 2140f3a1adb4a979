-- The gaps, where one area more is there.
use Rattle.std.proofs.Common.{◌≡◌, ◌∙◌, ap, sym, refl, ℕ, ◌+◌, ◌-◌, ◌<◌, ◌≤◌, inl, inr, min, max, nat_lt, nat_le, Bool, true, false, if◌then◌else◌, List, [], ◌∷◌, ◌++◌, flat_map, arith}
use Rattle.std.proofs.lemmas.Bool.{cases_lt}
use Rattle.lpt_extract.specs.CoversInside.{cut}
use Rattle.lpt_extract.specs.Gaps.{AreAll, Gap, IsGap, AreGaps}

not-both : (x : Bool) → x ≡ true → x ≡ false → ⊥
not-both x h l = cc

-- ---- more in front

-- addresses in front that are all there
all-join : (there : ℕ → Bool) (k j e : ℕ)
    → AreAll there true k j
    → AreAll there true j e
    → AreAll there true k e
all-join there k j e h l n a b = elim (cases_lt n j) as (λ x. there n ≡ true) [ inl c ↦ h n a c | inr c ↦ l n c b ]

widen : (there : ℕ → Bool) (k j e : ℕ) (gaps : List Gap)
    → k ≤ j
    → AreAll there true k j
    → AreGaps there j e gaps
    → AreGaps there k e gaps
widen there k j e [] le h l = all-join there k j e h l
widen there k j e (g ∷ gaps) le h l = (
  record {
    some = l.0.some;
    within = l.0.within;
    from = omega (arith, le, l.0.from);
    before = all-join there k j g.first h l.0.before;
    missing = l.0.missing;
    behind = l.0.behind;
  },
  l.1,
)

-- ---- the addresses from a up to, not including, b are there, too

module _ (old new : ℕ → Bool) (a b : ℕ) (some : a < b)
    (within : (n : ℕ) → a ≤ n → n < b → new n ≡ true)
    (below : (n : ℕ) → n < a → new n ≡ old n)
    (above : (n : ℕ) → b ≤ n → new n ≡ old n) where
  -- what was there is there
  kept : (n : ℕ) → old n ≡ true → new n ≡ true
  kept n h = elim (cases_lt n a) as (λ x. new n ≡ true) [
    | inl c ↦ below n c ∙ h
    | inr c ↦ elim (cases_lt n b) as (λ x. new n ≡ true) [ inl d ↦ within n c d | inr d ↦ above n d ∙ h ]
  ]

  all-kept : (k e : ℕ) → AreAll old true k e → AreAll new true k e
  all-kept k e h n c d = kept n (h n c d)

  -- behind a gap is no other, up to a later end
  behind-kept : (k e f : ℕ) (g : Gap)
      → IsGap old k e g
      → AreAll new true e f
      → g.last + 1 < f
      → new (g.last + 1) ≡ true
  behind-kept k e f g h more less = elim (cases_lt (g.last + 1) e) as (λ x. new (g.last + 1) ≡ true) [
    | inl c ↦ kept (g.last + 1) (h.behind c)
    | inr c ↦ more (g.last + 1) c less
  ]

  -- what is left of a gap in front of them
  left-gap : (k e f : ℕ) (g : Gap)
      → IsGap old k e g
      → e ≤ f
      → AreAll new true e f
      → g.first < a
      → IsGap new k f (record { first = g.first; last = min g.last (a - 1) })
  left-gap k e f g h le more less = record {
    some = omega (arith, h.some, less);
    within = omega (arith, h.within, le);
    from = h.from;
    before = all-kept k g.first h.before;
    missing = λ n c d. below n (omega (arith, d, less)) ∙ h.missing n c (omega (arith, d));
    behind = λ c. elim (cases_lt (g.last + 1) a) as (λ x. new (min g.last (a - 1) + 1) ≡ true) [
      | inl l ↦
          let is : g.last + 1 ≡ min g.last (a - 1) + 1 = omega (arith, l) in
          ap new (sym is) ∙ behind-kept k e f g h more (omega (arith, c, is))
      | inr l ↦ within (min g.last (a - 1) + 1) (omega (arith, l, less)) (omega (arith, l, less, some))
    ];
  }

  -- and behind them
  right-gap : (k e f : ℕ) (g : Gap) (from : ℕ)
      → IsGap old k e g
      → e ≤ f
      → AreAll new true e f
      → b ≤ g.last
      → from ≤ max g.first b
      → AreAll new true from (max g.first b)
      → IsGap new from f (record { first = max g.first b; last = g.last })
  right-gap k e f g from h le more less early before = record {
    some = omega (arith, h.some, less);
    within = omega (arith, h.within, le);
    from = early;
    before = before;
    missing = λ n c d. above n (omega (arith, c)) ∙ h.missing n (omega (arith, c)) d;
    behind = behind-kept k e f g h more;
  }

  -- of one gap
  cut-one : (k e f : ℕ) (g : Gap) (rest : List Gap) (l r : Bool)
      → nat_lt g.first a ≡ l
      → nat_le b g.last ≡ r
      → IsGap old k e g
      → e ≤ f
      → AreAll new true e f
      → AreGaps new (g.last + 1) f rest
      → AreGaps new k f (((if l then record { first = g.first; last = min g.last (a - 1) } ∷ [] else [])
      ++ (if r then record { first = max g.first b; last = g.last } ∷ [] else [])) ++ rest)
  cut-one k e f g rest true true is-l is-r h le more over =
      let less : g.first < a = grind (arith, is-l) in
      let reach : b ≤ g.last = grind (arith, is-r) in (
        left-gap k e f g h le more less,
        (
          right-gap k e f g (min g.last (a - 1) + 1) h le more reach (omega (arith, less, reach, some))
              (λ n c d. within n (omega (arith, c, reach, some)) (omega (arith, d, less, some))),
          over,
        ),
      )
  cut-one k e f g rest true false is-l is-r h le more over =
      let less : g.first < a = grind (arith, is-l) in
      let reach : g.last < b = grind (arith, is-r) in (
        left-gap k e f g h le more less,
        widen new (min g.last (a - 1) + 1) (g.last + 1) f rest (omega arith)
            (λ n c d. within n (omega (arith, c, d)) (omega (arith, d, reach))) over,
      )
  cut-one k e f g rest false true is-l is-r h le more over =
      let less : a ≤ g.first = grind (arith, is-l) in
      let reach : b ≤ g.last = grind (arith, is-r) in (
        right-gap k e f g k h le more reach (omega (arith, h.from))
            (all-join new k g.first (max g.first b) (all-kept k g.first h.before)
            (λ n c d. within n (omega (arith, c, less)) (omega (arith, c, d)))),
        over,
      )
  cut-one k e f g rest false false is-l is-r h le more over =
      let less : a ≤ g.first = grind (arith, is-l) in
      let reach : g.last < b = grind (arith, is-r) in
      widen new k (g.last + 1) f rest (omega (arith, h.from, h.some))
      (all-join new k g.first (g.last + 1) (all-kept k g.first h.before)
      (λ n c d. within n (omega (arith, c, less)) (omega (arith, d, reach))))
      over

  -- of all of them
  pub cut-gaps : (k e f : ℕ) (gaps : List Gap)
      → AreGaps old k e gaps
      → e ≤ f
      → ((n : ℕ) → k ≤ n → e ≤ n → n < f → new n ≡ true)
      → AreGaps new k f (flat_map (cut a b) gaps)
  cut-gaps k e f [] h le more = λ n c d. elim (cases_lt n e) as (λ x. new n ≡ true) [
    | inl l ↦ kept n (h n c l)
    | inr l ↦ more n c l d
  ]
  cut-gaps k e f (g ∷ gaps) h le more =
      cut-one k e f g (flat_map (cut a b) gaps) (nat_lt g.first a) (nat_le b g.last) refl refl h.0 le
      (λ n c d. more n (omega (arith, c, h.0.from, h.0.some, h.0.within)) c d)
      (cut-gaps (g.last + 1) e f gaps h.1 le
      (λ n c d l. more n (omega (arith, c, h.0.from, h.0.some)) d l))

  -- ---- they stand behind all others

  -- a gap in front of them
  pub push-gap : (k e m : ℕ) (gaps : List Gap)
      → AreGaps old k e gaps
      → m ≡ max k e
      → m < a
      → ((n : ℕ) → e ≤ n → old n ≡ false)
      → (k < e → old (e - 1) ≡ true)
      → AreGaps new k b (gaps ++ record { first = m; last = a - 1 } ∷ [])
  push-gap k e m [] h is less none reached = (
    record {
      some = omega (arith, less);
      within = omega (arith, less, some);
      from = omega (arith, is);
      before = λ n c d. kept n (h n c (omega (arith, is, c, d)));
      missing = λ n c d. below n (omega (arith, d, less)) ∙ none n (omega (arith, is, c));
      behind = λ c. within (a - 1 + 1) (omega (arith, less)) c;
    },
    λ n c d. within n (omega (arith, c, less)) d,
  )
  push-gap k e m (g ∷ gaps) h is less none reached =
      let top : m ≡ e = omega (arith, is, h.0.from, h.0.some, h.0.within) in (
        record {
          some = h.0.some;
          within = omega (arith, h.0.within, top, less, some);
          from = h.0.from;
          before = all-kept k g.first h.0.before;
          missing = λ n c d. below n (omega (arith, d, h.0.within, top, less)) ∙ h.0.missing n c d;
          behind = λ c. elim (cases_lt (g.last + 1) e) as (λ x. new (g.last + 1) ≡ true) [
            | inl l ↦ kept (g.last + 1) (h.0.behind l)
            | inr l ↦
                let last : e - 1 ≡ g.last = omega (arith, l, h.0.within) in
                let there : old g.last ≡ true =
                ap old (sym last) ∙ reached (omega (arith, h.0.from, h.0.some, h.0.within)) in
                absurd (not-both (old g.last) there (h.0.missing g.last h.0.some (omega arith)))
          ];
        },
        push-gap (g.last + 1) e m gaps h.1 (omega (arith, top, h.0.within)) less none
            (λ c. reached (omega (arith, h.0.from, h.0.some, h.0.within))),
      )
