-- Where the octets of a place stand, by the order of places.
use Rattle.std.proofs.Common.{◌≡◌, ◌≢◌, ◌⊎◌, ◌∙◌, ap, refl, sym, inl, inr, ℕ, zero, suc, ◌+◌, ◌<◌, ◌≤◌, ◌==◌, nat_lt, Bool, true, false, if◌then◌else◌, List, [], ◌∷◌, length, max, arith}
use Rattle.std.specs.Prelude.{Option, Some, None, slice_index_or}
use Rattle.std.specs.List.{insert}
use Rattle.std.specs.List.Sorted.{IsPartitionedBy, IsPartitionPoint}
use Rattle.std.proofs.lemmas.Bool.Decides.{eqb_tells}
use Rattle.std.proofs.lemmas.List.Sorted.{IsNonDecreasingBy-insert}
use Rattle.lpt_layout_join.specs.declared.spans.Span.{Span}
use Rattle.lpt_layout_join.specs.Spans.{IsPlaceOf, Rise, end_of, span_in}

-- the first is of this place, or isn't
first-is : (s : Span) (ss : List Span) (i : ℕ) → s.place ≡ i → span_in (s ∷ ss) i ≡ Some s
first-is s ss i e = elim (eqb_tells s.place i) [
  | inl w ↦ ap (λ b. if b then Some s else span_in ss i) w.0
  | inr w ↦ absurd (w.1 e)
]

first-isnt : (s : Span) (ss : List Span) (i : ℕ) → s.place ≢ i → span_in (s ∷ ss) i ≡ span_in ss i
first-isnt s ss i e = elim (eqb_tells s.place i) [
  | inl w ↦ absurd (e w.1)
  | inr w ↦ ap (λ b. if b then Some s else span_in ss i) w.0
]

-- none is of a place
pub span-none : (ss : List Span) (i : ℕ)
    → ((k : ℕ) (d : Span) → k < length ss → (slice_index_or ss k d).place ≢ i)
    → span_in ss i ≡ None
span-none [] i h = refl
span-none (s ∷ ss) i h =
    first-isnt s ss i (h zero s (omega arith))
    ∙ span-none ss i (λ k d less. h (suc k) d (omega (arith, less)))

-- one is, and none before it
pub span-some : (ss : List Span) (i k : ℕ) (d : Span)
    → ((j : ℕ) (d : Span) → j < k → (slice_index_or ss j d).place < i)
    → k < length ss
    → (slice_index_or ss k d).place ≡ i
    → span_in ss i ≡ Some (slice_index_or ss k d)
span-some [] i k d before less is = absurd (omega (arith, less))
span-some (s ∷ ss) i zero d before less is = first-is s ss i is
span-some (s ∷ ss) i (suc k) d before less is =
    let down = before zero s (omega arith) in
    first-isnt s ss i (omega (arith, down))
    ∙ span-some ss i k d (λ j d less. before (suc j) d (omega (arith, less)))
    (omega (arith, less)) is

-- ---- where it stands in order

lt-up : (a b : ℕ) → nat_lt a b ≡ true → a < b
lt-up a b h = grind arith

lt-down : (a b : ℕ) → nat_lt a b ≡ false → b ≤ a
lt-down a b h = grind arith

up-lt : (a b : ℕ) → a < b → nat_lt a b ≡ true
up-lt a b h = grind arith

pub less_or : (j k : ℕ) → (j < k) ⊎ (k ≤ j)
less_or j k = go (nat_lt j k) refl where
  go : (b : Bool) → nat_lt j k ≡ b → (j < k) ⊎ (k ≤ j)
  go true e = inl (lt-up j k e)
  go false e = inr (lt-down j k e)

-- those before a place stand in front
abbrev pub is_before : ℕ → Span → Bool
is_before i s = nat_lt s.place i

pub stands-apart : (ss : List Span) (i : ℕ) → Rise ss → IsPartitionedBy (is_before i) ss
stands-apart ss i rise j k d le less up =
    let before = lt-up (slice_index_or ss k d).place i up in
    let order = rise j k d le less in
    up-lt (slice_index_or ss j d).place i (omega (arith, before, order))

abbrev pub IsPoint : List Span → (i k : ℕ) → Type 0
IsPoint ss i k =
    IsPartitionPoint (λ s. is_before i s ≡ true) (λ s. is_before i s ≡ false) ss k

pub found-at : (ss : List Span) (i k : ℕ)
    → IsPoint ss i k
    → k < length ss
    → ((d : Span) → (slice_index_or ss k d).place ≡ i)
    → (d : Span)
    → span_in ss i ≡ Some (slice_index_or ss k d)
found-at ss i k point less is d =
    span-some ss i k d
    (λ j e first. lt-up (slice_index_or ss j e).place i (point.0 j e (omega arith) first))
    less (is d)

pub none-at : (ss : List Span) (i k : ℕ)
    → Rise ss
    → IsPoint ss i k
    → k ≤ length ss
    → (k < length ss → (d : Span) → (slice_index_or ss k d).place ≢ i)
    → IsPlaceOf i ss k
none-at ss i k rise point within isnt = record {
  none = span-none ss i (λ j d less. other j d less (less_or j k));
  within = within;
  before = λ j d less.
      let down = lt-up (slice_index_or ss j d).place i (point.0 j d (omega arith) less) in
      omega (arith, down);
  behind = λ j d from less. lt-down (slice_index_or ss j d).place i (point.1 j d from less);
} where
  other : (j : ℕ) (d : Span)
      → j < length ss
      → ((j < k) ⊎ (k ≤ j))
      → (slice_index_or ss j d).place ≢ i
  other j d less (inl h) =
      let down = lt-up (slice_index_or ss j d).place i (point.0 j d (omega arith) h) in
      λ e. absurd (omega (arith, down, e))
  other j d less (inr h) =
      let first = isnt (omega (arith, less, h)) d in
      let up = lt-down (slice_index_or ss k d).place i
      (point.1 k d (omega arith) (omega (arith, less, h))) in
      let order = rise k j d h less in
      λ e. first (omega (arith, up, order, e))

-- behind the end there is none
pub span-behind : (ss : List Span) (i : ℕ) → end_of ss ≤ i → span_in ss i ≡ None
span-behind [] i h = refl
span-behind (s ∷ ss) i h =
    first-isnt s ss i (omega (arith, h)) ∙ span-behind ss i (omega (arith, h))

below-end : (ss : List Span) (j : ℕ) (d : Span)
    → j < length ss
    → (slice_index_or ss j d).place < end_of ss
below-end [] j d less = absurd (omega (arith, less))
below-end (s ∷ ss) zero d less = omega arith
below-end (s ∷ ss) (suc j) d less = omega (arith, below-end ss j d (omega (arith, less)))

-- so one stands there behind all of them
pub last_place : (ss : List Span) (i : ℕ) → end_of ss ≤ i → IsPlaceOf i ss (length ss)
last_place ss i h = record {
  none = span-behind ss i h;
  within = omega arith;
  before = λ j d less. omega (arith, below-end ss j d less, h);
  behind = λ j d from less. absurd (omega (arith, from, less));
}

-- the last ends last
pub end-last : (ss : List Span) (d : Span) (n : ℕ)
    → Rise ss
    → length ss ≡ suc n
    → end_of ss ≡ (slice_index_or ss n d).place + 1
end-last [] d n rise len = absurd (omega (arith, len))
end-last (s ∷ []) d zero rise len = omega arith
end-last (s ∷ []) d (suc n) rise len = absurd (omega (arith, len))
end-last (s ∷ t ∷ ss) d zero rise len = absurd (omega (arith, len))
end-last (s ∷ t ∷ ss) d (suc n) rise len =
    let up = rise zero (suc n) d (omega arith) (omega (arith, len)) in
    let before = end-last (t ∷ ss) d n
    (λ i j d a b. rise (suc i) (suc j) d (omega (arith, a)) (omega (arith, b)))
    (omega (arith, len)) in
    omega (arith, up, before)

-- ---- one more

pub span-put : (ss : List Span) (k : ℕ) (s : Span) (i : ℕ)
    → span_in ss s.place ≡ None
    → k ≤ length ss
    → span_in (insert ss k s) i ≡ (if s.place == i then Some s else span_in ss i)
span-put ss zero s i none within = refl
span-put [] (suc k) s i none within = absurd (omega (arith, within))
span-put (t ∷ ss) (suc k) s i none within = elim (eqb_tells t.place i) [
  | inl w ↦ elim (eqb_tells s.place i) [
    | inl v ↦
        let both : ◌≡◌ {A = Option Span} (Some t) None =
        sym (first-is t ss s.place (omega (arith, w.1, v.1))) ∙ none in
        absurd cc
    | inr v ↦
        first-is t (insert ss k s) i w.1 ∙ sym (first-is t ss i w.1)
        ∙ sym (ap (λ b. if b then Some s else span_in (t ∷ ss) i) v.0)
  ]
  | inr w ↦
      first-isnt t (insert ss k s) i w.1
      ∙ span-put ss k s i (less (eqb_tells t.place s.place)) (omega (arith, within))
      ∙ ap (λ o. if s.place == i then Some s else o) (sym (first-isnt t ss i w.1))
] where
  less : (((t.place == s.place) ≡ true) × (t.place ≡ s.place))
      ⊎ (((t.place == s.place) ≡ false) × (t.place ≢ s.place))
      → span_in ss s.place ≡ None
  less (inl v) =
      let both : ◌≡◌ {A = Option Span} (Some t) None = sym (first-is t ss s.place v.1) ∙ none in
      absurd cc
  less (inr v) = sym (first-isnt t ss s.place v.1) ∙ none

pub end-put : (ss : List Span) (k : ℕ) (s : Span) → k ≤ length ss
    → end_of (insert ss k s) ≡ max (s.place + 1) (end_of ss)
end-put ss zero s within = refl
end-put [] (suc k) s within = absurd (omega (arith, within))
end-put (t ∷ ss) (suc k) s within =
    let before = end-put ss k s (omega (arith, within)) in
    omega (arith, before)

pub rise-put : (ss : List Span) (k : ℕ) (s : Span) → Rise ss → IsPlaceOf s.place ss k
    → Rise (insert ss k s)
rise-put ss k s rise new =
    IsNonDecreasingBy-insert (λ (x : Span). x.place) ss k s rise new.within new.before new.behind
