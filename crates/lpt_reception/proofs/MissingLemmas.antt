-- What is known of the last part, and which parts are missing.
use Rattle.std.proofs.Common.{◌≡◌, ◌∙◌, sym, refl, subst, ℕ, ◌<◌, ◌≤◌, Bool, true, false, List, Option, Some, None, arith}
use Rattle.std.specs.Prelude.{IsSomeAnd}
use Rattle.std.specs.FinMap as map
use Rattle.std.proofs.lemmas.Bool.{false_from_ne_true, true≢false}
use Rattle.lpt_reception.specs.Marks.{is_marked}
use Rattle.lpt_reception.specs.Missing.{IsInner, IsLastNumber, IsMissing, IsNextMissing}
use Rattle.lpt_reception.specs.Received.{Kept, Parts, is_last}
use Rattle.lpt_reception.specs.Stored.{top, parts_in, IsShape}
use Rattle.lpt_reception.proofs.PlaceLemmas.{last_has_top, top_came, top_is_last}
use Rattle.lpt_reception.proofs.StoredLemmas.{get_marked, get_unmarked}

module _ (p : ℕ) (ended : Bool) (marks octets : List ℕ) (shape : IsShape p ended marks octets) where
  abbrev set : Parts
  set = parts_in p ended marks octets

  -- the last part has the highest number
  pub last_is_top : ended ≡ true → IsLastNumber set (Some (top p octets))
  last_is_top is =
      let two = shape.two is in
      subst (λ (o : Option Kept). IsSomeAnd o (λ x. is_last x ≡ true))
      (sym (top_came p ended marks octets shape (omega arith)))
      (top_is_last p ended marks octets shape is)

  -- where it hasn't come no part is the last one
  pub no_last : ended ≡ false → IsLastNumber set None
  no_last is n x at =
      false_from_ne_true (is_last x) (λ last.
      true≢false (sym (last_has_top p ended marks octets shape n x at last).0 ∙ is))

  -- only one part is the last one
  one_last : (o : Option Kept) (m l : ℕ) (x : Kept)
      → map.get set m ≡ o
      → IsSomeAnd o (λ y. is_last y ≡ true)
      → map.get set l ≡ Some x
      → is_last x ≡ true
      → m ≡ l
  one_last None m l x is last at also = absurd last
  one_last (Some y) m l x is last at also =
      (last_has_top p ended marks octets shape m y is last).1
      ∙ sym (last_has_top p ended marks octets shape l x at also).1

  -- the numbers before the last part's are those before each last part
  pub inner_of : (m n : ℕ)
      → IsLastNumber set (Some m)
      → m < 65536
      → n < m
      → IsInner set n
  inner_of m n last fits less = record {
    fits = omega arith;
    inner = λ l x at also.
        let same = one_last (map.get set m) m l x refl last at also in omega arith;
  }

  below_of : (o : Option Kept) (m n : ℕ)
      → map.get set m ≡ o
      → IsSomeAnd o (λ y. is_last y ≡ true)
      → IsInner set n
      → n < m
  below_of None m n is last inner = absurd last
  below_of (Some y) m n is last inner = inner.inner m y is last

  pub inner_below : (m n : ℕ) → IsLastNumber set (Some m) → IsInner set n → n < m
  inner_below m n last inner = below_of (map.get set m) m n refl last inner

  -- ---- without a last part

  pub inner_all : (n : ℕ) → IsLastNumber set None → n < 65536 → IsInner set n
  inner_all n none fits = record {
    fits = fits;
    inner = λ l x at last. absurd (true≢false (sym last ∙ none l x at));
  }

  -- ---- looking for one that is missing

  -- a part that was kept isn't
  kept_is_there : (k : ℕ) → is_marked marks k ≡ true → ¬ (IsMissing set k)
  kept_is_there k is gone =
      let there = get_marked p ended marks octets shape k is in
      let absent = gone.absent in
      cc

  -- all numbers were passed over
  pub none_missing : (from end : ℕ)
      → ((n : ℕ) → IsInner set n → n < end)
      → ((k : ℕ) → from ≤ k → 1 ≤ k → k < end → is_marked marks k ≡ true)
      → IsNextMissing set from None
  none_missing from end below all n behind gone =
      kept_is_there n (all n behind gone.counted (below n gone.known)) gone

  -- the first that wasn't kept
  pub first_missing : (from end n : ℕ)
      → ((n : ℕ) → n < end → IsInner set n)
      → ((k : ℕ) → from ≤ k → 1 ≤ k → k < n → is_marked marks k ≡ true)
      → from ≤ n
      → 1 ≤ n
      → n < end
      → is_marked marks n ≡ false
      → IsNextMissing set from (Some n)
  first_missing from end n inner all behind counted within absent = (
    behind,
    record {
      counted = counted;
      known = inner n within;
      absent = get_unmarked p ended marks octets shape n absent;
    },
    λ k from_k less gone. kept_is_there k (all k from_k gone.counted less) gone,
  )
