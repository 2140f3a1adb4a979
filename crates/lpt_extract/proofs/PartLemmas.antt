-- What an area leaves of gaps in order: those that it cuts are parted, and those within it go.
use Rattle.std.proofs.Common.{◌≡◌, ◌∙◌, ap, sym, refl, subst, ℕ, ◌+◌, ◌-◌, ◌<◌, ◌≤◌, inl, inr, min, max, nat_le, nat_lt, Bool, true, false, cond, if◌then◌else◌, List, [], ◌∷◌, ◌++◌, flat_map, arith}
use Rattle.std.proofs.lemmas.Bool.{cases_lt}
use Rattle.std.proofs.lemmas.Grind.{flat_map-append}
use Rattle.std.specs.List.{filter}
use Rattle.lpt_extract.specs.CoversInside.{cut, is_apart, Ascend, IsBehind}
use Rattle.lpt_extract.specs.Gaps.{AreGaps, Gap}

-- ---- their order

pub ascend : (there : ℕ → Bool) (k e : ℕ) (gaps : List Gap)
    → AreGaps there k e gaps
    → Ascend gaps
ascend there k e [] h = tt
ascend there k e (g ∷ []) h = (h.0.some, tt, tt)
ascend there k e (g ∷ (x ∷ gaps)) h =
    (h.0.some, omega (arith, h.1.0.from), ascend there (g.last + 1) e (x ∷ gaps) h.1)

-- ---- what is left of one

cut-is : (a b : ℕ) (g : Gap) (l r : Bool)
    → nat_lt g.first a ≡ l
    → nat_le b g.last ≡ r
    → cut a b g
    ≡ (if l then record { first = g.first; last = min g.last (a - 1) } ∷ [] else [])
    ++ (if r then record { first = max g.first b; last = g.last } ∷ [] else [])
cut-is a b g l r h k =
    λ i. (if h i then record { first = g.first; last = min g.last (a - 1) } ∷ [] else [])
    ++ (if k i then record { first = max g.first b; last = g.last } ∷ [] else [])

pub in_front : (a b : ℕ) (g : Gap) → a ≤ b → g.first ≤ g.last → g.last < a → cut a b g ≡ g ∷ []
in_front a b g le some less =
    let last : min g.last (a - 1) ≡ g.last = omega (arith, less) in
    cut-is a b g true false (grind (arith, some, less)) (grind (arith, le, less))
    ∙ (λ i. record { first = g.first; last = last i } ∷ [])

pub behind : (a b : ℕ) (g : Gap) → a ≤ b → g.first ≤ g.last → b ≤ g.first → cut a b g ≡ g ∷ []
behind a b g le some more =
    let first : max g.first b ≡ g.first = omega (arith, more) in
    cut-is a b g false true (grind (arith, le, more)) (grind (arith, some, more))
    ∙ (λ i. record { first = first i; last = g.last } ∷ [])

-- its front part, from its first address on
abbrev pub front : ℕ → Gap → Gap
front a g = record { first = g.first; last = a - 1 }

abbrev pub back : ℕ → Gap → Gap
back b g = record { first = b; last = g.last }

module _ (a b : ℕ) (le : a ≤ b) (g : Gap) where
  pub both : g.first < a → b ≤ g.last → cut a b g ≡ front a g ∷ back b g ∷ []
  both less more =
      let last : min g.last (a - 1) ≡ a - 1 = omega (arith, le, more) in
      let first : max g.first b ≡ b = omega (arith, le, less) in
      cut-is a b g true true (grind (arith, less)) (grind (arith, more))
      ∙ (λ i. record { first = g.first; last = last i }
      ∷ record { first = first i; last = g.last } ∷ [])

  left : g.first < a → a ≤ g.last → g.last < b → cut a b g ≡ front a g ∷ []
  left less more stop =
      let last : min g.last (a - 1) ≡ a - 1 = omega (arith, more) in
      cut-is a b g true false (grind (arith, less)) (grind (arith, stop))
      ∙ (λ i. record { first = g.first; last = last i } ∷ [])

  right : a ≤ g.first → g.first < b → b ≤ g.last → cut a b g ≡ back b g ∷ []
  right less stop more =
      let first : max g.first b ≡ b = omega (arith, stop) in
      cut-is a b g false true (grind (arith, less)) (grind (arith, more))
      ∙ (λ i. record { first = first i; last = g.last } ∷ [])

  within : a ≤ g.first → g.last < b → cut a b g ≡ []
  within less stop = cut-is a b g false false (grind (arith, less)) (grind (arith, stop))

-- ---- parted at an address, they are in order

-- a gap is parted, or stays
parted : (P : List Gap → Type 0) (c : ℕ) (g : Gap)
    → g.first ≤ g.last
    → P (g ∷ [])
    → (g.first < c → c ≤ g.last → P (front c g ∷ back c g ∷ []))
    → P (cut c c g)
parted P c g some one two = elim (cases_lt g.first c) as (λ _. P (cut c c g)) [
  | inr h ↦ subst P (sym (behind c c g (omega arith) some h)) one
  | inl h ↦ elim (cases_lt g.last c) as (λ _. P (cut c c g)) [
    | inl l ↦ subst P (sym (in_front c c g (omega arith) some l)) one
    | inr l ↦ subst P (sym (both c c (omega arith) g h l)) (two h l)
  ]
]

behind-parted : (c n : ℕ) (gaps : List Gap)
    → Ascend gaps
    → IsBehind n gaps
    → IsBehind n (flat_map (cut c c) gaps)
behind-parted c n [] h b = tt
behind-parted c n (g ∷ gaps) h b =
    parted (λ xs. IsBehind n (xs ++ flat_map (cut c c) gaps)) c g h.0 b (λ _ _. b)

pub ascend-parted : (c : ℕ) (gaps : List Gap) → Ascend gaps → Ascend (flat_map (cut c c) gaps)
ascend-parted c [] h = tt
ascend-parted c (g ∷ gaps) h =
    let more = behind-parted c g.last gaps h.2 h.1 in
    let rest = ascend-parted c gaps h.2 in
    parted (λ xs. Ascend (xs ++ flat_map (cut c c) gaps)) c g h.0 (h.0, more, rest)
    (λ l r. (omega (arith, l), omega (arith, l), (r, more, rest)))

-- ---- what is left of all

pub keeps : {X : Type 0} (p : X → Bool) (x : X) (xs : List X)
    → p x ≡ true
    → filter p (x ∷ xs) ≡ x ∷ filter p xs
keeps p x xs h = λ i. cond (h i) (x ∷ filter p xs) (filter p xs)

pub drops : {X : Type 0} (p : X → Bool) (x : X) (xs : List X)
    → p x ≡ false
    → filter p (x ∷ xs) ≡ filter p xs
drops p x xs h = λ i. cond (h i) (x ∷ filter p xs) (filter p xs)

module _ (a b : ℕ) (some : a < b) where
  apart : (g : Gap) → (g.first < a) → is_apart a b g ≡ true
  apart g h = grind (arith, h)

  apart-behind : (g : Gap) → (b ≤ g.first) → is_apart a b g ≡ true
  apart-behind g h = grind (arith, h)

  pub met : (g : Gap) → (a ≤ g.first) → (g.first < b) → is_apart a b g ≡ false
  met g h l = grind (arith, h, l)

  by_parts : (g : Gap) (rest xs ys zs : List Gap)
      → cut b b g ≡ xs
      → flat_map (cut a a) xs ≡ ys
      → cut a b g ≡ zs
      → filter (is_apart a b) (ys ++ rest) ≡ zs ++ filter (is_apart a b) rest
      → filter (is_apart a b) (flat_map (cut a a) (cut b b g) ++ rest)
      ≡ cut a b g ++ filter (is_apart a b) rest
  by_parts g rest xs ys zs h l m n =
      ap (λ us. filter (is_apart a b) (flat_map (cut a a) us ++ rest)) h
      ∙ ap (λ us. filter (is_apart a b) (us ++ rest)) l
      ∙ n ∙ ap (λ us. us ++ filter (is_apart a b) rest) (sym m)

  -- of one: it is parted twice, and what is within goes
  of_one : (g : Gap) (rest : List Gap)
      → g.first ≤ g.last
      → filter (is_apart a b) (flat_map (cut a a) (cut b b g) ++ rest)
      ≡ cut a b g ++ filter (is_apart a b) rest
  of_one g rest h = elim (cases_lt g.last a) as (λ _. Goal) [
    | inl l ↦ by_parts g rest (g ∷ []) (g ∷ []) (g ∷ [])
        (in_front b b g (omega arith) h (omega (arith, some, l)))
        (ap (λ us. us ++ []) (in_front a a g (omega arith) h l))
        (in_front a b g (omega (arith, some)) h l)
        (keeps (is_apart a b) g rest (apart g (omega (arith, h, l))))
    | inr l ↦ elim (cases_lt g.first b) as (λ _. Goal) [
      | inr m ↦ by_parts g rest (g ∷ []) (g ∷ []) (g ∷ [])
          (behind b b g (omega arith) h m)
          (ap (λ us. us ++ []) (behind a a g (omega arith) h (omega (arith, some, m))))
          (behind a b g (omega (arith, some)) h m)
          (keeps (is_apart a b) g rest (apart-behind g m))
      | inl m ↦ elim (cases_lt g.first a) as (λ _. Goal) [
        | inl n ↦ elim (cases_lt g.last b) as (λ _. Goal) [
          | inl o ↦ by_parts g rest (g ∷ []) (front a g ∷ back a g ∷ []) (front a g ∷ [])
              (in_front b b g (omega arith) h o)
              (ap (λ us. us ++ []) (both a a (omega arith) g n l))
              (left a b (omega (arith, some)) g n l o)
              (keeps (is_apart a b) (front a g) (back a g ∷ rest) (apart (front a g) n)
              ∙ ap (λ us. front a g ∷ us)
              (drops (is_apart a b) (back a g) rest (met (back a g) (omega arith) some)))
          | inr o ↦ by_parts g rest (front b g ∷ back b g ∷ [])
              (front a g ∷ back a (front b g) ∷ back b g ∷ []) (front a g ∷ back b g ∷ [])
              (both b b (omega arith) g m o)
              (λ i. both a a (omega arith) (front b g) n (omega (arith, some)) i
              ++ (behind a a (back b g) (omega arith) o (omega (arith, some)) i ++ []))
              (both a b (omega (arith, some)) g n o)
              (keeps (is_apart a b) (front a g) (back a (front b g) ∷ back b g ∷ rest)
              (apart (front a g) n)
              ∙ ap (λ us. front a g ∷ us)
              (drops (is_apart a b) (back a (front b g)) (back b g ∷ rest)
              (met (back a (front b g)) (omega arith) some)
              ∙ keeps (is_apart a b) (back b g) rest (apart-behind (back b g) (omega arith))))
        ]
        | inr n ↦ elim (cases_lt g.last b) as (λ _. Goal) [
          | inl o ↦ by_parts g rest (g ∷ []) (g ∷ []) []
              (in_front b b g (omega arith) h o)
              (ap (λ us. us ++ []) (behind a a g (omega arith) h n))
              (within a b (omega (arith, some)) g n o)
              (drops (is_apart a b) g rest (met g n m))
          | inr o ↦ by_parts g rest (front b g ∷ back b g ∷ []) (front b g ∷ back b g ∷ [])
              (back b g ∷ [])
              (both b b (omega arith) g m o)
              (λ i. behind a a (front b g) (omega arith) (omega (arith, m)) n i
              ++ (behind a a (back b g) (omega arith) o (omega (arith, some)) i ++ []))
              (right a b (omega (arith, some)) g n m o)
              (drops (is_apart a b) (front b g) (back b g ∷ rest) (met (front b g) n m)
              ∙ keeps (is_apart a b) (back b g) rest (apart-behind (back b g) (omega arith)))
        ]
      ]
    ]
  ] where
    Goal : Type 0
    Goal = filter (is_apart a b) (flat_map (cut a a) (cut b b g) ++ rest)
        ≡ cut a b g ++ filter (is_apart a b) rest

  pub of_all : (gaps : List Gap)
      → Ascend gaps
      → filter (is_apart a b) (flat_map (cut a a) (flat_map (cut b b) gaps))
      ≡ flat_map (cut a b) gaps
  of_all [] h = refl
  of_all (g ∷ gaps) h =
      let rest = flat_map (cut a a) (flat_map (cut b b) gaps) in
      ap (filter (is_apart a b)) (flat_map-append (cut a a) (cut b b g) (flat_map (cut b b) gaps))
      ∙ of_one g rest h.0
      ∙ ap (λ us. cut a b g ++ us) (of_all gaps h.2)
