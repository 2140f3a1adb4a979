-- The addresses at which an area differs from what stands, one after the other.
use Rattle.std.proofs.Common.{◌≡◌, ◌∙◌, ap, sym, refl, subst, ℕ, ◌+◌, ◌-◌, ◌<◌, ◌≤◌, ◌==◌, ◌||◌}
use Rattle.std.proofs.Common.{◌&&◌}
use Rattle.std.proofs.Common.{nat_lt, Bool, true, false, List, [], ◌∷◌, ◌++◌}
use Rattle.std.proofs.Common.{length, get_or, append_assoc, append-nil, arith}
use Rattle.std.proofs.lemmas.Bool.Decides.{nat_tests}
use Rattle.std.proofs.lemmas.List.Folds.{list_any-append}
use Rattle.lpt_memory.specs.declared.request.Area.{Area}
use Rattle.lpt_extract.specs.ClashesInside.{is_other, is_unlike}
use Rattle.lpt_extract.specs.CoversInside.{Covers}
use Rattle.lpt_extract.specs.Gaps.{has, is_given, Gap}
use Rattle.lpt_extract.specs.declared.cover.Cover.{Cover}

-- the octet at one address
abbrev pub one_at : (n octet : ℕ) → Area
one_at n octet = record { address = n; octets = octet ∷ [] }

module _ (from : ℕ) (standing : List ℕ) (gaps : List Gap) (a : Area) where
  -- those in front of a place
  abbrev pub upto : (at n : ℕ) → Bool
  upto at n = is_unlike from standing gaps a n && nat_lt n (a.address + at)

  -- what is told in front of a place, besides what was
  abbrev pub Told : (told : List Area) → (at : ℕ) → Cover → Type 0
  Told told at c =
      (more : List Area) × Covers 0 (told ++ more) c × ((n : ℕ) → is_given more n ≡ upto at n)

  -- at first nothing
  pub told-none : (told : List Area) (c : Cover) → Covers 0 told c → Told told 0 c
  told-none told c h = ([], subst (λ t. Covers 0 t c) (sym (append-nil told)) h, none) where
    none : (n : ℕ) → false ≡ upto 0 n
    none n = grind (arith, nat_tests)

  -- at last all
  pub told-all : (told : List Area) (at : ℕ) (c : Cover)
      → length a.octets ≤ at
      → Told told at c
      → (more : List Area) × Covers 0 (told ++ more) c
      × ((n : ℕ) → is_given more n ≡ is_unlike from standing gaps a n)
  told-all told at c long h = (
    h.0,
    h.1,
    λ n. h.2 n ∙ all n (is_other from standing gaps n (get_or a.octets (n - a.address) 0)),
  ) where
    all : (n : ℕ) (t : Bool) → ((has a n && t) && nat_lt n (a.address + at)) ≡ (has a n && t)
    all n true = grind (arith, nat_tests, long)
    all n false = grind (arith, nat_tests, long)

  -- where it doesn't differ nothing more
  pub told-same : (told : List Area) (at : ℕ) (c : Cover)
      → is_other from standing gaps (a.address + at) (get_or a.octets at 0) ≡ false
      → Told told at c
      → Told told (at + 1) c
  told-same told at c same h = (h.0, h.1, λ n. h.2 n ∙ next n) where
    off : (p : Bool) → (p && false) ≡ false
    off true = refl
    off false = refl

    here : is_unlike from standing gaps a (a.address + at) ≡ false
    here =
        ap (λ k. has a (a.address + at)
        && is_other from standing gaps (a.address + at) (get_or a.octets k 0))
        (omega arith)
        ∙ ap (λ t. has a (a.address + at) && t) same ∙ off (has a (a.address + at))

    else : (n : ℕ) (t : Bool) → (n == a.address + at) ≡ false
        → (t && nat_lt n (a.address + at)) ≡ (t && nat_lt n (a.address + (at + 1)))
    else n true e = grind (arith, nat_tests, e)
    else n false e = refl

    next : (n : ℕ) → upto at n ≡ upto (at + 1) n
    next n = go (n == a.address + at) refl where
      go : (t : Bool) → (n == a.address + at) ≡ t → upto at n ≡ upto (at + 1) n
      go false e = else n (is_unlike from standing gaps a n) e
      go true e =
          let is : n ≡ a.address + at = grind (arith, nat_tests, e) in
          let none : is_unlike from standing gaps a n ≡ false =
          ap (is_unlike from standing gaps a) is ∙ here in
          ap (λ t. t && nat_lt n (a.address + at)) none
          ∙ sym (ap (λ t. t && nat_lt n (a.address + (at + 1))) none)

  -- where it does that address
  pub told-other : (told : List Area) (at : ℕ) (old new : Cover)
      → at < length a.octets
      → is_other from standing gaps (a.address + at) (get_or a.octets at 0) ≡ true
      → ((areas : List Area) → Covers 0 areas old
      → Covers 0 (areas ++ one_at (a.address + at) (get_or a.octets at 0) ∷ []) new)
      → Told told at old
      → Told told (at + 1) new
  told-other told at old new some other add h = (
    h.0 ++ one ∷ [],
    subst (λ t. Covers 0 t new) (append_assoc told h.0 (one ∷ [])) (add (told ++ h.0) h.1),
    λ n. list_any-append (λ a. has a n) h.0 (one ∷ [])
        ∙ ap (λ t. t || (has one n || false)) (h.2 n) ∙ next n,
  ) where
    one : Area
    one = one_at (a.address + at) (get_or a.octets at 0)

    there : is_unlike from standing gaps a (a.address + at) ≡ true
    there =
        let mine : has a (a.address + at) ≡ true = grind (arith, nat_tests, some) in
        ap (λ k. has a (a.address + at)
        && is_other from standing gaps (a.address + at) (get_or a.octets k 0))
        (omega arith)
        ∙ ap (λ t. has a (a.address + at) && t) other ∙ ap (λ t. t && true) mine

    else : (n : ℕ) (t : Bool) → (n == a.address + at) ≡ false
        → ((t && nat_lt n (a.address + at)) || (has one n || false))
        ≡ (t && nat_lt n (a.address + (at + 1)))
    else n true e = grind (arith, nat_tests, e)
    else n false e = grind (arith, nat_tests, e)

    or-true : (x : Bool) → (x || true) ≡ true
    or-true true = refl
    or-true false = refl

    next : (n : ℕ) → (upto at n || (has one n || false)) ≡ upto (at + 1) n
    next n = go (n == a.address + at) refl where
      go : (t : Bool) → (n == a.address + at) ≡ t
          → (upto at n || (has one n || false)) ≡ upto (at + 1) n
      go false e = else n (is_unlike from standing gaps a n) e
      go true e =
          let is : n ≡ a.address + at = grind (arith, nat_tests, e) in
          let mine : has one n ≡ true = grind (arith, nat_tests, is) in
          let yes : is_unlike from standing gaps a n ≡ true =
          ap (is_unlike from standing gaps a) is ∙ there in
          let less : nat_lt n (a.address + (at + 1)) ≡ true = grind (arith, nat_tests, is) in
          ap (λ t. upto at n || (t || false)) mine ∙ or-true (upto at n)
          ∙ sym ((λ i. yes i && less i))
