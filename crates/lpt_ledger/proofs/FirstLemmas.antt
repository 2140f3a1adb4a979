-- The first number that passes a test, and the least free name of a source.
use Rattle.std.proofs.Common.{◌≡◌, ◌≢◌, ◌∙◌, refl, sym, ap, ℕ, zero, suc, ◌+◌, ◌*◌, ◌/◌, ◌%◌, ◌<◌, ◌≤◌, Bool, true, false, List, Option, Some, None, is_some, inl, inr, arith}
use Rattle.std.proofs.lemmas.Bool.{cases_lt}
use Rattle.std.proofs.lemmas.Bool.Decides.{eqb_tells}
use Rattle.std.specs.Option.{option_map}
use Rattle.lpt_packet.specs.Names.{Name, named_by}
use Rattle.lpt_ledger.specs.declared.page.Page.{Page}
use Rattle.lpt_ledger.specs.declared.state.State.{State}
use Rattle.lpt_ledger.specs.declared.state.State.TheVariants.{Free, Open, Closed}
use Rattle.lpt_ledger.specs.Marks.{Mark, Opened, Shut, Marks}
use Rattle.lpt_ledger.specs.States.{state_of, state_at, is_free}
use Rattle.lpt_ledger.specs.LedgerInside.{mark_at, mark_on, marks, page_in}
use Rattle.lpt_ledger.specs.LeastFree.{name_count, IsLeastFree, first_of_numbers, least_free_in}
use Rattle.lpt_ledger.proofs.MarksLemmas.{get-marks}

-- ---- the first number that passes

-- the first of n numbers from k that passes
pub record IsFirstOf (n k : ℕ) (test : ℕ → Bool) (i : ℕ) : Type 0 where
  pub from : k ≤ i
  pub to : i < k + n
  pub passes : test i ≡ true
  pub none_before : (j : ℕ) → k ≤ j → j < i → test j ≡ false

-- the first, or none where none passes
abbrev pub IsFirst : ℕ → ℕ → (ℕ → Bool) → Option ℕ → Type 0
IsFirst n k test None = (i : ℕ) → k ≤ i → i < k + n → test i ≡ false
IsFirst n k test (Some i) = IsFirstOf n k test i

-- what fails at k and from the next number on fails from k on
fails_from : (k i : ℕ) (test : ℕ → Bool)
    → test k ≡ false
    → k ≤ i
    → (suc k ≤ i → test i ≡ false)
    → test i ≡ false
fails_from k i test here from later =
    elim (eqb_tells i k) [ inl t ↦ ap test t.1 ∙ here | inr t ↦ later (omega arith) ]

-- where k fails, the first is sought from the next number on
IsFirst-later : (n k : ℕ) (test : ℕ → Bool) (o : Option ℕ)
    → test k ≡ false
    → IsFirst n (suc k) test o
    → IsFirst (suc n) k test o
IsFirst-later n k test None here later = λ i from to.
    fails_from k i test here from (λ (h : suc k ≤ i). later i h (omega arith))
IsFirst-later n k test (Some x) here later = record {
  from = omega arith;
  to = omega arith;
  passes = later.passes;
  none_before = λ j from to.
      fails_from k j test here from (λ (h : suc k ≤ j). later.none_before j h to);
}

-- the first is found
pub IsFirst-first_of_numbers : (n k : ℕ) (test : ℕ → Bool)
    → IsFirst n k test (first_of_numbers n k test)
unfolding first_of_numbers
IsFirst-first_of_numbers zero k test = λ i from to. absurd (omega arith)
IsFirst-first_of_numbers (suc n) k test =
    let rest = first_of_numbers n (suc k) test in
    let found : Bool → Option ℕ = λ b. elim b [ true ↦ Some k | false ↦ rest ] in
    elim (test k) as (λ b. test k ≡ b → IsFirst (suc n) k test (found b)) [
      | true ↦ λ here. record {
        from = omega arith;
        to = omega arith;
        passes = here;
        none_before = λ j from to. absurd (omega arith);
      }
      | false ↦ λ here. IsFirst-later n k test rest here (IsFirst-first_of_numbers n (suc k) test)
    ] refl

-- there is one first
IsFirst-unique : (n k : ℕ) (test : ℕ → Bool) (a b : Option ℕ)
    → IsFirst n k test a
    → IsFirst n k test b
    → a ≡ b
IsFirst-unique n k test None None g h = refl
IsFirst-unique n k test None (Some j) g h =
    let never : true ≡ false = sym h.passes ∙ g j h.from h.to in absurd cc
IsFirst-unique n k test (Some i) None g h =
    let never : true ≡ false = sym g.passes ∙ h i g.from g.to in absurd cc
IsFirst-unique n k test (Some i) (Some j) g h =
    let not_below : j ≤ i = not_above i j (λ (low : i < j).
    let never : true ≡ false = sym g.passes ∙ h.none_before i g.from low in cc)
    in
    let not_behind : i ≤ j = not_above j i (λ (low : j < i).
    let never : true ≡ false = sym h.passes ∙ g.none_before j h.from low in cc)
    in
    ap (λ (x : ℕ). Some x) (omega arith) where
      not_above : (i j : ℕ) → ¬ (i < j) → j ≤ i
      not_above i j h = omega arith

-- ---- the least free name

-- a state that passes the test is free
free_by : (s : State) → is_free s ≡ true → s ≡ Free
free_by Free h = refl
free_by Open h = cc
free_by Closed h = cc

-- a state that fails it is not
not_free_by : (s : State) → is_free s ≡ false → s ≢ Free
not_free_by s h e = absurd (let t : true ≡ false = sym (ap is_free e) ∙ h in cc)

module _ (m : Marks) (source : ℕ) where
  -- whether the name of this identifier is free
  abbrev pub tested : ℕ → Bool
  tested i = is_free (state_at m (named_by source i))

  -- the first that passes the test is the least free one
  pub IsLeastFree-first : (o : Option ℕ)
      → IsFirst name_count 0 tested o
      → IsLeastFree m source (option_map (named_by source) o)
  IsLeastFree-first None none = λ i h.
      not_free_by (state_at m (named_by source i)) (none i (omega arith) (omega arith))
  IsLeastFree-first (Some i) first = record {
    of_source = refl;
    in_range = first.to;
    free = free_by (state_at m (named_by source i)) first.passes;
    none_before = λ j before.
        not_free_by (state_at m (named_by source j)) (first.none_before j (omega arith) before);
  }

  -- what is sought upwards is the least free name
  pub IsLeastFree-least_free_in : IsLeastFree m source (least_free_in m source)
  unfolding least_free_in
  IsLeastFree-least_free_in =
      IsLeastFree-first (first_of_numbers name_count 0 tested)
      (IsFirst-first_of_numbers name_count 0 tested)

  -- a first that passes is what is sought upwards
  pub least_free_in-first : (o : Option ℕ)
      → IsFirst name_count 0 tested o
      → option_map (named_by source) o ≡ least_free_in m source
  unfolding least_free_in
  least_free_in-first o first =
      ap (option_map (named_by source))
      (IsFirst-unique name_count 0 tested o (first_of_numbers name_count 0 tested) first
      (IsFirst-first_of_numbers name_count 0 tested))

  -- a name of the source is the one of its identifier
  its_own : (n : Name) → n.source ≡ source → n ≡ named_by source n.id
  its_own n e = λ i. record { source = e i; id = n.id }

  one : (i j : ℕ) → ¬ (i < j) → ¬ (j < i) → i ≡ j
  one i j below behind = omega (arith, below, behind)

  -- there is no second answer
  pub IsLeastFree-unique : (a b : Option Name) → IsLeastFree m source a → IsLeastFree m source b → a ≡ b
  IsLeastFree-unique None None g h = refl
  IsLeastFree-unique None (Some y) g h =
      absurd (g y.id h.in_range (ap (state_at m) (sym (its_own y h.of_source)) ∙ h.free))
  IsLeastFree-unique (Some x) None g h =
      absurd (h x.id g.in_range (ap (state_at m) (sym (its_own x g.of_source)) ∙ g.free))
  IsLeastFree-unique (Some x) (Some y) g h =
      let not_below : ¬ (x.id < y.id) = λ low.
      h.none_before x.id low (ap (state_at m) (sym (its_own x g.of_source)) ∙ g.free) in
      let not_behind : ¬ (y.id < x.id) = λ low.
      g.none_before y.id low (ap (state_at m) (sym (its_own y h.of_source)) ∙ h.free) in
      let ids : x.id ≡ y.id = one x.id y.id not_below not_behind in
      ap Some (its_own x g.of_source ∙ ap (named_by source) ids ∙ sym (its_own y h.of_source))

-- ---- the first free one of pages

free_mark : (o : Option Mark) → o ≡ None → is_free (state_of o) ≡ true
free_mark None h = refl
free_mark (Some x) h = absurd cc

taken_mark : (o : Option Mark) → is_some o ≡ true → is_free (state_of o) ≡ false
taken_mark None h = absurd cc
taken_mark (Some Opened) h = refl
taken_mark (Some Shut) h = refl

-- the names of a source with identifiers below n are taken
abbrev pub AreTaken : List (Name × Page) → (source n : ℕ) → Type 0
AreTaken es source n = (i : ℕ) → i < n → is_some (mark_at es (named_by source i)) ≡ true

module _ (es : List (Name × Page)) (source : ℕ) where
  taken_at : (n i : ℕ)
      → AreTaken es source n
      → i < n
      → tested (marks es) source i ≡ false
  taken_at n i taken below =
      ap (λ o. is_free (state_of o)) (get-marks es (named_by source i))
      ∙ taken_mark (mark_at es (named_by source i)) (taken i below)

  -- where all of them are taken none is free
  pub none_free : AreTaken es source name_count → IsFirst name_count 0 (tested (marks es) source) None
  none_free taken = λ i from to. taken_at name_count i taken (omega (arith, to))

  module _ (n : ℕ) (before : AreTaken es source (n * 64)) where
    in_page : (k : ℕ)
        → ((i : ℕ) → i < k → is_some (mark_on (page_in es (named_by source (n * 64))) i) ≡ true)
        → k ≤ 64
        → AreTaken es source (n * 64 + k)
    in_page k taken most i below = elim (cases_lt i (n * 64)) [
      | inl low ↦ before i low
      | inr high ↦
          let page : i / 64 * 64 ≡ n * 64 = omega (arith, below, high, most) in
          let place : i % 64 < k = omega (arith, below, high, most) in
          ap (λ (p : ℕ). is_some (mark_on (page_in es (named_by source p)) (i % 64))) page
          ∙ taken (i % 64) place
    ]

    -- the first of a page that is free, behind pages that are taken
    pub first_in_page : (b : ℕ)
        → n < 1024
        → b < 64
        → mark_on (page_in es (named_by source (n * 64))) b ≡ None
        → ((i : ℕ) → i < b → is_some (mark_on (page_in es (named_by source (n * 64))) i) ≡ true)
        → IsFirst name_count 0 (tested (marks es) source) (Some (n * 64 + b))
    first_in_page b within place free taken = record {
      from = omega arith;
      to = omega (arith, within, place);
      passes =
          let page : (n * 64 + b) / 64 * 64 ≡ n * 64 = omega (arith, place) in
          let at : (n * 64 + b) % 64 ≡ b = omega (arith, place) in
          ap (λ o. is_free (state_of o)) (get-marks es (named_by source (n * 64 + b)))
          ∙ free_mark (mark_at es (named_by source (n * 64 + b)))
          ((λ i. mark_on (page_in es (named_by source (page i))) (at i)) ∙ free);
      none_before = λ j from to.
          taken_at (n * 64 + b) j (in_page b taken (omega (arith, place))) to;
    }
