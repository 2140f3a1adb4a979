-- Where the octets of a part more are kept.
use Rattle.std.proofs.Common.{◌≡◌, ◌≢◌, ◌⊎◌, ◌∙◌, ap, refl, sym, inl, inr, ℕ, zero, suc, ◌+◌, ◌-◌, ◌<◌, ◌≤◌, ◌==◌, true, if◌then◌else◌, List, ◌++◌, length, take, drop, max, is_some, arith, length-append, length-drop}
use Rattle.std.specs.Prelude.{Option, Some, None, slice_range}
use Rattle.std.specs.Option.{option_or}
use Rattle.std.proofs.Math.Seq.{drop-append_seam}
use Rattle.std.proofs.lemmas.Bool.Decides.{eqb_tells}
use Rattle.std.proofs.lemmas.List.{drop-append-le, take-append-le, take_all}
use Rattle.lpt_layout_join.specs.declared.slots.Slots.{Slots}
use Rattle.lpt_layout_join.specs.declared.spans.Span.{Span}
use Rattle.lpt_layout_join.specs.Came.{and_more, count_to, octets_joined}
use Rattle.lpt_layout_join.specs.Slots.{IsSound, at, end_in}
use Rattle.lpt_layout_join.specs.Spans.{end_of, is_within, octets_at, span_in}
use Rattle.lpt_layout_join.proofs.SpanLemmas.{less_or, span-behind}

-- ---- octets behind others

module _ (xs ys : List ℕ) where
  range-more : (a b : ℕ) → a ≤ b → b ≤ length xs
      → slice_range (xs ++ ys) a b ≡ slice_range xs a b
  range-more a b up within =
      let len = length-drop a xs in
      ap (take (b - a)) (drop-append-le a xs ys (omega (arith, up, within)))
      ∙ take-append-le (b - a) (drop a xs) ys (omega (arith, up, within, len))

  within-up : (n : ℕ) (s : Span) → is_within n s ≡ true → (s.start ≤ s.end) × (s.end ≤ n)
  within-up n s h = (grind arith, grind arith)

  within-is : (n : ℕ) (s : Span) → s.start ≤ s.end → s.end ≤ n → is_within n s ≡ true
  within-is n s up within = grind arith

  within-more : (s : Span) → is_within (length xs) s ≡ true → is_within (length (xs ++ ys)) s ≡ true
  within-more s h =
      let u = within-up (length xs) s h in
      let len = length-append xs ys in
      within-is (length (xs ++ ys)) s u.0 (omega (arith, len, u.1))

  -- what stood among those before still does
  pub octets-more : (o : Option Span)
      → ((x : Span) → o ≡ Some x → is_within (length xs) x ≡ true)
      → octets_at (xs ++ ys) o ≡ octets_at xs o
  octets-more None h = refl
  octets-more (Some s) h =
      let here = h s refl in
      let u = within-up (length xs) s here in
      ap (λ b. if b then Some (slice_range (xs ++ ys) s.start s.end) else None)
      (within-more s here)
      ∙ ap Some (range-more s.start s.end u.0 u.1)
      ∙ sym (ap (λ b. if b then Some (slice_range xs s.start s.end) else None) here)

  -- those that came stand behind them
  pub octets-new : (place : ℕ) → octets_at (xs ++ ys)
      (Some (record { place = place; start = length xs; end = length xs + length ys })) ≡ Some ys
  octets-new place =
      let len = length-append xs ys in
      let less : length xs + length ys - length xs ≡ length ys = omega arith in
      ap (λ b. if b then Some (slice_range (xs ++ ys) (length xs) (length xs + length ys)) else None)
      (within-is (length (xs ++ ys))
      (record { place = place; start = length xs; end = length xs + length ys })
      (omega arith) (omega (arith, len)))
      ∙ ap Some
      ((λ j. take (less j) (drop-append_seam xs ys j)) ∙ take_all (length ys) ys (omega arith))

-- ---- how many there are

pub count-same : (f g : ℕ → Option (List ℕ)) (n : ℕ)
    → ((i : ℕ) → 1 ≤ i → i ≤ n → f i ≡ g i)
    → count_to f n ≡ count_to g n
count-same f g zero h = refl
count-same f g (suc n) h =
    let before = count-same f g n (λ i a b. h i a (omega (arith, b))) in
    let here = h (suc n) (omega arith) (omega arith) in
    λ j. before j + (if is_some (here j) then 1 else 0)

-- behind the last there are none
pub count-behind : (f : ℕ → Option (List ℕ)) (n k : ℕ)
    → ((i : ℕ) → n < i → f i ≡ None)
    → count_to f (n + k) ≡ count_to f n
count-behind f n zero h =
    let same : n + zero ≡ n = omega arith in
    ap (count_to f) same
count-behind f n (suc k) h =
    let more : n + suc k ≡ suc (n + k) = omega arith in
    let here = h (suc (n + k)) (omega arith) in
    let one : count_to f (suc (n + k)) ≡ count_to f (n + k) + 0 =
    (λ j. count_to f (n + k) + (if is_some (here j) then 1 else 0)) in
    let before = count-behind f n k h in
    ap (count_to f) more ∙ omega (arith, one, before)

-- one more
pub count-one : (f g : ℕ → Option (List ℕ)) (k n : ℕ) (x : List ℕ)
    → f (suc k) ≡ None
    → g (suc k) ≡ Some x
    → ((i : ℕ) → 1 ≤ i → i ≢ suc k → g i ≡ f i)
    → k < n
    → count_to g n ≡ count_to f n + 1
count-one f g k zero x none some others less = absurd (omega (arith, less))
count-one f g k (suc n) x none some others less = elim (eqb_tells k n) [
  | inl w ↦
      let same : suc n ≡ suc k = ap (λ i. suc i) (sym w.1) in
      let before : count_to g n ≡ count_to f n =
      count-same g f n (λ i a b. others i a (omega (arith, b, same))) in
      let now : count_to g (suc n) ≡ count_to g n + 1 =
      (λ j. count_to g n + (if is_some ((ap g same ∙ some) j) then 1 else 0)) in
      let was : count_to f (suc n) ≡ count_to f n + 0 =
      (λ j. count_to f n + (if is_some ((ap f same ∙ none) j) then 1 else 0)) in
      omega (arith, before, now, was)
  | inr w ↦
      let before = count-one f g k n x none some others (omega (arith, less, w.1)) in
      let here : g (suc n) ≡ f (suc n) = others (suc n) (omega arith) (omega (arith, w.1)) in
      let now : count_to g (suc n) ≡ count_to g n + (if is_some (f (suc n)) then 1 else 0) =
      (λ j. count_to g n + (if is_some (here j) then 1 else 0)) in
      omega (arith, before, now)
]

-- up to more numbers there are no fewer
count-up : (f : ℕ → Option (List ℕ)) (n k : ℕ) → count_to f n ≤ count_to f (n + k)
count-up f n zero =
    let here : n ≡ n + zero = omega arith in
    let same = ap (count_to f) here in
    omega (arith, same)
count-up f n (suc k) =
    let here : n + suc k ≡ suc (n + k) = omega arith in
    let more : count_to f (n + suc k) ≡ count_to f (suc (n + k)) = ap (count_to f) here in
    let before = count-up f n k in
    omega (arith, more, before)

-- behind the last there are no more
count-most : (f : ℕ → Option (List ℕ)) (h n : ℕ) → ((i : ℕ) → h < i → f i ≡ None)
    → count_to f n ≤ count_to f h
count-most f h n behind =
    let down = count-behind f h (n - h) behind in
    let most = count-up f n (h + (n - h) - n) in
    let here : n + (h + (n - h) - n) ≡ h + (n - h) = omega arith in
    let same = ap (count_to f) here in
    omega (arith, down, most, same)

and-parts : (a b : Option (List ℕ)) (x : List ℕ) → and_more a b ≡ Some x
    → (is_some a ≡ true) × (is_some b ≡ true)
and-parts (Some a) (Some b) x e = (refl, refl)
and-parts (Some a) None x e = absurd cc
and-parts None b x e = absurd cc

-- those that are joined are all there
count-joined : (f : ℕ → Option (List ℕ)) (n : ℕ) → is_some (octets_joined f n) ≡ true
    → count_to f n ≡ n
count-joined f zero e = refl
count-joined f (suc n) e = go (octets_joined f (suc n)) refl e (count-joined f n) where
  go : (o : Option (List ℕ))
      → octets_joined f (suc n) ≡ o
      → is_some o ≡ true
      → (is_some (octets_joined f n) ≡ true → count_to f n ≡ n)
      → count_to f (suc n) ≡ suc n
  go None is some rest = absurd cc
  go (Some x) is some rest =
      let both = and-parts (octets_joined f n) (f (suc n)) x is in
      let before = rest both.0 in
      let one : count_to f (suc n) ≡ count_to f n + 1 =
      (λ j. count_to f n + (if both.1 j then 1 else 0)) in
      omega (arith, before, one)

-- where fewer came than numbers, they aren't joined
pub joined-few : (f : ℕ → Option (List ℕ)) (h n : ℕ) → ((i : ℕ) → h < i → f i ≡ None)
    → count_to f h < n
    → octets_joined f n ≡ None
joined-few f h n behind few = go (octets_joined f n) refl where
  go : (o : Option (List ℕ)) → octets_joined f n ≡ o → octets_joined f n ≡ None
  go None is = is
  go (Some x) is =
      let all = count-joined f n (ap is_some is) in
      let most = count-most f h n behind in
      absurd (omega (arith, all, most, few))

-- ---- a part more

same_or : (i k : ℕ) → (i ≡ k) ⊎ (i ≢ k)
same_or i k = elim (eqb_tells i k) [
  | inl w ↦ inl w.1
  | inr w ↦ inr w.1
]

some-same : (x y : Span) → ◌≡◌ {A = Option Span} (Some x) (Some y) → x ≡ y
some-same x y e = cc

-- behind the last there is none
pub none-behind : (s : Slots) (i : ℕ) → end_in s < i → at s (i - 1) ≡ None
none-behind s i less =
    ap (octets_at s.octets.items) (span-behind s.spans.items (i - 1) (omega (arith, less)))

-- it came before
pub kept-here : (s : Slots) (n : ℕ) (xs : List ℕ) (x : Span)
    → IsSound s
    → span_in s.spans.items (n - 1) ≡ Some x
    → at s (n - 1) ≡ option_or (at s (n - 1)) (Some xs)
kept-here s n xs x sound is =
    let there = ap (octets_at s.octets.items) is
    ∙ ap (λ b. if b then Some (slice_range s.octets.items x.start x.end) else None)
    (sound.within (n - 1) x is) in
    there ∙ sym (ap (λ o. option_or o (Some xs)) there)

-- none came before
pub new-here : (s t : Slots) (n : ℕ) (xs : List ℕ)
    → span_in s.spans.items (n - 1) ≡ None
    → at t (n - 1) ≡ Some xs
    → at t (n - 1) ≡ option_or (at s (n - 1)) (Some xs)
new-here s t n xs none is =
    is ∙ sym (ap (λ o. option_or o (Some xs)) (ap (octets_at s.octets.items) none))

-- where a place is kept it is before the end
pub end-kept : (ss : List Span) (n : ℕ) (x : Span)
    → 1 ≤ n
    → span_in ss (n - 1) ≡ Some x
    → end_of ss ≡ max n (end_of ss)
end-kept ss n x least is = go (less_or (n - 1) (end_of ss)) where
  go : ((n - 1 < end_of ss) ⊎ (end_of ss ≤ n - 1)) → end_of ss ≡ max n (end_of ss)
  go (inl h) = omega (arith, h)
  go (inr h) =
      let both : ◌≡◌ {A = Option Span} None (Some x) = sym (span-behind ss (n - 1) h) ∙ is in
      absurd cc

-- it is new
module _ (old new : Slots) (n : ℕ) (xs : List ℕ) (x : Span) (least : 1 ≤ n) (sound : IsSound old)
    (place : x.place ≡ n - 1)
    (start : x.start ≡ length old.octets.items)
    (end : x.end ≡ length old.octets.items + length xs)
    (none : span_in old.spans.items (n - 1) ≡ None)
    (octets : new.octets.items ≡ old.octets.items ++ xs)
    (spans : (i : ℕ) → span_in new.spans.items i
    ≡ (if x.place == i then Some x else span_in old.spans.items i)) where
  abbrev f : ℕ → Option (List ℕ)
  f i = at old (i - 1)

  abbrev g : ℕ → Option (List ℕ)
  g i = at new (i - 1)

  span-here : span_in new.spans.items (n - 1) ≡ Some x
  span-here = elim (eqb_tells x.place (n - 1)) [
    | inl w ↦
        spans (n - 1)
        ∙ ap (λ b. if b then Some x else span_in old.spans.items (n - 1)) w.0
    | inr w ↦ absurd (w.1 place)
  ]

  span-other : (i : ℕ) → i ≢ n - 1 → span_in new.spans.items i ≡ span_in old.spans.items i
  span-other i other = elim (eqb_tells x.place i) [
    | inl w ↦ absurd (other (sym w.1 ∙ place))
    | inr w ↦ spans i ∙ ap (λ b. if b then Some x else span_in old.spans.items i) w.0
  ]

  pub new-other : (i : ℕ) → i ≢ n - 1 → at new i ≡ at old i
  new-other i other =
      (λ j. octets_at (octets j) (span-other i other j))
      ∙ octets-more old.octets.items xs (span_in old.spans.items i) (sound.within i)

  pub new-some : at new (n - 1) ≡ Some xs
  new-some =
      (λ j. octets_at (octets j) (span-here j))
      ∙ (λ j. octets_at (old.octets.items ++ xs)
      (Some (record { place = x.place; start = start j; end = end j })))
      ∙ octets-new old.octets.items xs x.place

  none-before : at old (n - 1) ≡ None
  none-before = ap (octets_at old.octets.items) none

  pub new-sound : end_in new ≡ max n (end_in old)
      → length new.spans.items ≡ length old.spans.items + 1
      → IsSound new
  new-sound last len = record {
    within = λ i y is. within i y is (same_or i (n - 1));
    count_is =
        let more : max n (end_in old) ≡ end_in old + (n - end_in old) = omega arith in
        let was : count_to f (max n (end_in old)) ≡ length old.spans.items =
        ap (count_to f) more ∙ count-behind f (end_in old) (n - end_in old) (none-behind old)
        ∙ sym sound.count_is in
        let now : count_to g (max n (end_in old)) ≡ count_to f (max n (end_in old)) + 1 =
        count-one f g (n - 1) (max n (end_in old)) xs (ap (at old) back ∙ none-before)
        (ap (at new) back ∙ new-some) others (omega (arith, least)) in
        let same : count_to g (end_in new) ≡ count_to g (max n (end_in old)) =
        ap (count_to g) last in
        omega (arith, len, was, now, same);
  } where
    back : suc (n - 1) - 1 ≡ n - 1
    back = omega arith

    others : (i : ℕ) → 1 ≤ i → i ≢ suc (n - 1) → at new (i - 1) ≡ at old (i - 1)
    others i a other = new-other (i - 1) (omega (arith, a, other))

    within : (i : ℕ) (y : Span) → span_in new.spans.items i ≡ Some y
        → ((i ≡ n - 1) ⊎ (i ≢ n - 1))
        → is_within (length new.octets.items) y ≡ true
    within i y is (inl w) =
        let more = ap (λ (ys : List ℕ). length ys) octets ∙ length-append old.octets.items xs in
        let same : x ≡ y = some-same x y
        (sym span-here ∙ ap (span_in new.spans.items) (sym w) ∙ is) in
        ap (is_within (length new.octets.items)) (sym same)
        ∙ within-is old.octets.items xs (length new.octets.items) x (omega (arith, start, end))
        (omega (arith, more, end))
    within i y is (inr w) =
        ap (λ (ys : List ℕ). is_within (length ys) y) octets
        ∙ within-more old.octets.items xs y (sound.within i y (sym (span-other i w) ∙ is))
