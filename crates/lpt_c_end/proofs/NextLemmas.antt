-- To go from a name to the next one goes through the names of a map, in order.
use Rattle.std.proofs.Common.{◌≡◌, ◌∙◌, ap, sym, refl, subst, inl, inr, ℕ, zero, suc, ◌+◌, ◌≤◌, Less, Bool, true, false, T, List, [], ◌∷◌, Option, Some, None, is_some, add-one, arith}
use Rattle.std.specs.Prelude.{map as mapped, slice_get}
use Rattle.std.specs.FinMap as map
use Rattle.std.specs.FinMap.Entries.{below_all, find, is_sorted}
use Rattle.std.specs.Ordering.{is_lt}
use Rattle.std.proofs.lemmas.Bool.{true≢false}
use Rattle.std.proofs.lemmas.Option.{slice_get_cases, slice_get_past}
use Rattle.lpt_packet.proofs.KeyLemmas.{first, second, found_above, found_cases, found_first, found_still}
use Rattle.lpt_packet.proofs.NameLemmas.{name_cmp_total, name_cmp-IsAntisymmetric, name_before-less, name_before-refl, neither_before}
use Rattle.lpt_packet.specs.Names.{Name, name_before, name_cmp}
use Rattle.lpt_table.specs.Walking.{IsNext}

-- only one name is the next one
pub next_alone : (test : Name → Bool) (after : Option Name) (a b : Option Name)
    → IsNext test after a
    → IsNext test after b
    → a ≡ b
next_alone test after None None h g = refl
next_alone test after None (Some b) h g = absurd (true≢false (sym g.behind ∙ h b g.passes))
next_alone test after (Some a) None h g = absurd (true≢false (sym h.behind ∙ g a h.passes))
next_alone test after (Some a) (Some b) h g =
    ap Some (neither_before a b (g.least a h.passes h.behind) (h.least b g.passes g.behind))

module _ {X : Type 0} where
  abbrev keys : List (Name × X) → List Name
  keys es = mapped (λ e. e.0) es

  -- whether a name is found
  abbrev has : List (Name × X) → Name → Bool
  has es q = is_some (find name_cmp q es)

  found : (o : Option X) → is_some o ≡ true → (x : X) × (o ≡ Some x)
  found None h = absurd (true≢false (sym h))
  found (Some x) h = (x, refl)

  module _ (e : Name × X) (es : List (Name × X)) (up : T (is_sorted name_cmp (e ∷ es))) where
    -- the first name is there, and so is what was there behind it
    here : has (e ∷ es) e.0 ≡ true
    here = ap is_some (found_first name_cmp_total name_cmp-IsAntisymmetric e.0 e es refl)

    still : (q : Name) → has es q ≡ true → has (e ∷ es) q ≡ true
    still q h =
        let x = found (find name_cmp q es) h in
        ap is_some (found_still name_cmp_total name_cmp-IsAntisymmetric q x.0 e es up x.1)

    -- what is behind the first name stands behind it
    above : (q : Name) → has es q ≡ true → name_cmp e.0 q ≡ Less
    above q h =
        let x = found (find name_cmp q es) h in
        found_above name_cmp_total name_cmp-IsAntisymmetric e.0 q x.0 es
        (first (below_all name_cmp e.0 es) (is_sorted name_cmp es) up) x.1

    -- a name that is there is the first one, or there behind it
    either : (q : Name) (P : Type 0)
        → (q ≡ e.0 → P)
        → (has es q ≡ true → P)
        → has (e ∷ es) q ≡ true
        → P
    either q P f g h =
        let x = found (find name_cmp q (e ∷ es)) h in
        elim (found_cases name_cmp_total name_cmp-IsAntisymmetric q x.0 e es x.1) [
          | inl w ↦ f w.0
          | inr w ↦ g (ap is_some w.1)
        ]

    -- the first name is the first of all
    begins : IsNext (has (e ∷ es)) None (Some e.0)
    begins = record {
      passes = here;
      behind = refl;
      least = λ q h _. either q (name_before q e.0 ≡ false)
          (λ same. ap (λ n. name_before n e.0) same ∙ name_before-refl e.0)
          (λ there. name_before-less e.0 q (above q there)) h;
    }

    -- what is the first behind it is the next one after it
    follows : (r : Option Name) → IsNext (has es) None r → IsNext (has (e ∷ es)) (Some e.0) r
    follows None n =
        λ q h. either q (name_before e.0 q ≡ false)
        (λ same. ap (name_before e.0) same ∙ name_before-refl e.0)
        (λ there. absurd (true≢false (n q there))) h
    follows (Some k) n = record {
      passes = still k n.passes;
      behind = ap is_lt (above k n.passes);
      least = λ q h behind. either q (name_before q k ≡ false)
          (λ same.
          absurd (true≢false (sym behind ∙ ap (name_before e.0) same ∙ name_before-refl e.0)))
          (λ there. n.least q there refl) h;
    }

    -- and what is next behind another stays so
    goes_on : (b : Name) (r : Option Name)
        → has es b ≡ true
        → IsNext (has es) (Some b) r
        → IsNext (has (e ∷ es)) (Some b) r
    goes_on b None there n =
        λ q h. either q (name_before b q ≡ false)
        (λ same. ap (name_before b) same ∙ name_before-less e.0 b (above b there)) (n q) h
    goes_on b (Some k) there n = record {
      passes = still k n.passes;
      behind = n.behind;
      least = λ q h behind. either q (name_before q k ≡ false)
          (λ same.
          let before = ap (name_before b) same ∙ name_before-less e.0 b (above b there) in
          absurd (true≢false (sym behind ∙ before)))
          (λ was. n.least q was behind) h;
    }

    rest : T (is_sorted name_cmp es)
    rest = second (below_all name_cmp e.0 es) (is_sorted name_cmp es) up

  -- the name of a number is there
  has_key : (es : List (Name × X))
      → T (is_sorted name_cmp es)
      → (i : ℕ) (k : Name)
      → slice_get (keys es) i ≡ Some k
      → has es k ≡ true
  has_key [] up i k h = absurd cc
  has_key (e ∷ es) up zero k h =
      let same : e.0 ≡ k = cc in ap (has (e ∷ es)) (sym same) ∙ here e es up
  has_key (e ∷ es) up (suc i) k h = still e es up k (has_key es (rest e es up) i k h)

  first_is : (es : List (Name × X))
      → T (is_sorted name_cmp es)
      → IsNext (has es) None (slice_get (keys es) 0)
  first_is [] up = λ q h. absurd (true≢false (sym h))
  first_is (e ∷ es) up = begins e es up

  next_is : (es : List (Name × X))
      → T (is_sorted name_cmp es)
      → (i : ℕ) (k : Name)
      → slice_get (keys es) i ≡ Some k
      → IsNext (has es) (Some k) (slice_get (keys es) (suc i))
  next_is [] up i k h = absurd cc
  next_is (e ∷ es) up zero k h =
      let same : e.0 ≡ k = cc in
      subst (λ (n : Name). IsNext (has (e ∷ es)) (Some n) (slice_get (keys es) 0)) same
      (follows e es up (slice_get (keys es) 0) (first_is es (rest e es up)))
  next_is (e ∷ es) up (suc i) k h =
      goes_on e es up k (slice_get (keys es) (suc i)) (has_key es (rest e es up) i k h)
      (next_is es (rest e es up) i k h)

-- ---- the names of a map

module _ {X : Type 0} (m : map.FinMap name_cmp X) where
  abbrev there : Name → Bool
  there q = is_some (map.get m q)

  found_there : (λ q. is_some (find name_cmp q (map.entries m))) ≡ there
  found_there = λ i. λ q. is_some (sym (map.get-entries m q) i)

  -- the name of a number is there
  key_there : (i : ℕ) (k : Name) → slice_get (map.keys m) i ≡ Some k → there k ≡ true
  key_there i k h =
      ap is_some (map.get-entries m k) ∙ has_key (map.entries m) (map.entries_sorted m) i k h

  -- and with it what stands under it
  pub key_entry : (i : ℕ) (k : Name)
      → slice_get (map.keys m) i ≡ Some k
      → (x : X) × (map.get m k ≡ Some x)
  key_entry i k h = found (map.get m k) (key_there i k h)

  -- the first name is that of number 0
  pub first_key : (r : Option Name) → IsNext there None r → r ≡ slice_get (map.keys m) 0
  first_key r h =
      next_alone there None r (slice_get (map.keys m) 0) h
      (subst (λ (test : Name → Bool). IsNext test None (slice_get (map.keys m) 0)) found_there
      (first_is (map.entries m) (map.entries_sorted m)))

  -- and the next one behind that of a number is that of the next number
  pub next_key : (i : ℕ) (k : Name) (r : Option Name)
      → slice_get (map.keys m) i ≡ Some k
      → IsNext there (Some k) r
      → r ≡ slice_get (map.keys m) (i + 1)
  next_key i k r at h =
      next_alone there (Some k) r (slice_get (map.keys m) (suc i)) h
      (subst (λ (test : Name → Bool). IsNext test (Some k) (slice_get (map.keys m) (suc i)))
      found_there (next_is (map.entries m) (map.entries_sorted m) i k at))
      ∙ ap (slice_get (map.keys m)) (sym (add-one i))

-- behind a number that has none there is none
pub none_behind : {A : Type 0} (xs : List A) (i j : ℕ)
    → slice_get xs i ≡ None
    → i ≤ j
    → slice_get xs j ≡ None
none_behind xs i j none le = elim ((slice_get_cases xs i).1) [
  | inl w ↦ absurd (let some = w.2 in cc)
  | inr w ↦ slice_get_past xs j (omega arith)
]
