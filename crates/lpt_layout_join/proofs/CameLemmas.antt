-- What came of one transaction, with a part more.
use Rattle.std.proofs.Common.{◌≡◌, ◌≢◌, ◌∙◌, ap, sym, refl, ℕ, ◌+◌, ◌-◌, ◌<◌, ◌≤◌, ◌==◌, max, Bool, true, false, if◌then◌else◌, List, [], ◌∷◌, ◌++◌, length, arith}
use Rattle.std.specs.Prelude.{Option, Some, None}
use Rattle.std.specs.Option.{option_or}
use Rattle.std.proofs.lemmas.Bool.{eqb-true, eqb-false}
use Rattle.lpt_part.specs.Parts.{Piece}
use Rattle.lpt_layout_join.specs.declared.came.CameAs.{CameAs}
use Rattle.lpt_layout_join.specs.declared.last_part.LastPart.{LastPart}
use Rattle.lpt_layout_join.specs.declared.spans.Span.{Span}
use Rattle.lpt_layout_join.specs.Came.{Came, count_in, count_to, first_told, joined_by, message_of, octets_told, size_told, last_told, octets_of, highest}
use Rattle.lpt_layout_join.specs.CameInside.{IsBlank, Shows, against_in, highest_in, last_in, part_at, size_in}
use Rattle.lpt_layout_join.specs.Slots.{IsSound, at}
use Rattle.lpt_layout_join.specs.Spans.{end_of, octets_at, span_in}
use Rattle.lpt_layout_join.proofs.PutLemmas.{count-same, joined-few, none-behind}

or-assoc : {A : Type 0} → (a b c : Option A)
    → option_or a (option_or b c) ≡ option_or (option_or a b) c
or-assoc (Some x) b c = refl
or-assoc None b c = refl

or-none : {A : Type 0} → (a : Option A) → option_or a None ≡ a
or-none (Some x) = refl
or-none None = refl

-- what is first told of parts, with one more behind them
pub first_told-more : {A : Type 0} → (tell : Piece → Option A) (qs : List Piece) (q : Piece)
    → first_told tell (qs ++ q ∷ []) ≡ option_or (first_told tell qs) (tell q)
first_told-more tell [] q = or-none (tell q)
first_told-more tell (p ∷ qs) q =
    ap (option_or (tell p)) (first_told-more tell qs q)
    ∙ or-assoc (tell p) (first_told tell qs) (tell q)

-- the greatest number, with one part more
pub highest-more : (qs : List Piece) (q : Piece)
    → highest (qs ++ q ∷ []) ≡ max q.number (highest qs)
highest-more [] q = refl
highest-more (p ∷ qs) q =
    let more : highest (qs ++ q ∷ []) ≡ max q.number (highest qs) = highest-more qs q in
    omega (arith, more)

-- the octets of a number, with one part more
pub octets-more : (qs : List Piece) (q : Piece) (n : ℕ) (same : Bool)
    → (q.number == n) ≡ same
    → octets_of (qs ++ q ∷ []) n ≡ option_or (octets_of qs n) (if same then Some q.octets else None)
octets-more qs q n same e =
    first_told-more (octets_told n) qs q
    ∙ ap (λ (t : Bool). option_or (octets_of qs n) (if t then Some q.octets else None)) e

-- what is held shows what came, with one part more
pub shows-more : (c : Came) (old new : CameAs) (q : Piece)
    → Shows c old
    → 1 ≤ q.number
    → IsSound new.slots
    → ((i : ℕ) → i ≢ q.number - 1 → at new.slots i ≡ at old.slots i)
    → at new.slots (q.number - 1)
    ≡ option_or (at old.slots (q.number - 1)) (Some q.octets)
    → highest_in new ≡ max q.number (highest_in old)
    → size_in new ≡ option_or (size_in old) (size_told q)
    → last_in new ≡ option_or (last_in old) (last_told q)
    → against_in new ≡ against_in old
    → Shows (record c { parts = c.parts ++ q ∷ [] }) new
shows-more c old new q h some sound others here len size last against = record {
  sound = sound;
  parts_are = λ n least. part n least (q.number == n) refl;
  size_is = size ∙ ap (λ o. option_or o (size_told q)) h.size_is
      ∙ sym (first_told-more size_told c.parts q);
  last_is = last ∙ ap (λ o. option_or o (last_told q)) h.last_is
      ∙ sym (first_told-more last_told c.parts q);
  highest_is = len ∙ ap (max q.number) h.highest_is ∙ sym (highest-more c.parts q);
  against_is = against ∙ h.against_is;
} where
  part : (n : ℕ) → 1 ≤ n → (t : Bool) → (q.number == n) ≡ t
      → part_at new n ≡ octets_of (c.parts ++ q ∷ []) n
  part n least true e =
      let is : q.number ≡ n = eqb-true q.number n e in
      ap (λ (k : ℕ). at new.slots (k - 1)) (sym is) ∙ here
      ∙ ap (λ (k : ℕ). option_or (at old.slots (k - 1)) (Some q.octets)) is
      ∙ ap (λ o. option_or o (Some q.octets)) (h.parts_are n least)
      ∙ sym (octets-more c.parts q n true e)
  part n least false e =
      let isnt : q.number ≢ n = eqb-false q.number n e in
      let other : n - 1 ≢ q.number - 1 = omega arith in
      others (n - 1) other ∙ h.parts_are n least ∙ sym (or-none (octets_of c.parts n))
      ∙ sym (octets-more c.parts q n false e)

-- how many parts are held
pub count-shown : (c : Came) (s : CameAs) → Shows c s
    → length s.slots.spans.items ≡ count_in c.parts
count-shown c s h =
    h.sound.count_is
    ∙ ap (count_to (λ n. at s.slots (n - 1))) h.highest_is
    ∙ count-same (λ n. at s.slots (n - 1)) (octets_of c.parts) (highest c.parts)
    (λ n a b. h.parts_are n a)

-- there is no message of fewer parts than there are numbers
pub message-few : (c : Came) (s : CameAs) (last : LastPart)
    → Shows c s
    → last_in s ≡ Some last
    → length s.slots.spans.items < last.number
    → ◌≡◌ {A = Option (List ℕ)} None (message_of c.parts)
message-few c s last h is less =
    let count = count-shown c s h in
    sym (ap (joined_by (octets_of c.parts)) (sym h.last_is ∙ is)
    ∙ joined-few (octets_of c.parts) (highest c.parts) last.number behind
    (omega (arith, less, count))) where
      behind : (i : ℕ) → highest c.parts < i → octets_of c.parts i ≡ None
      behind i up =
          let high : highest_in s ≡ highest c.parts = h.highest_is in
          sym (h.parts_are i (omega (arith, up))) ∙ none-behind s.slots i (omega (arith, up, high))

-- behind the last part that is kept there is none
pub behind-last : (s : CameAs) (n : ℕ) → highest_in s ≤ n → part_at s (n + 1) ≡ None
behind-last s n h = none-behind s.slots (n + 1) (omega (arith, h))

-- where no part is held, the same is shown by another that holds none
no-some : {A : Type 0} (x : A) → ◌≡◌ {A = Option A} None (Some x) → ⊥
no-some x h = cc

at-blank : (s : CameAs) → IsBlank s → (i : ℕ) → at s.slots i ≡ None
at-blank s b i = ap (λ (ss : List Span). octets_at s.slots.octets.items (span_in ss i)) b.spans

sound-blank : (s : CameAs) → IsBlank s → IsSound s.slots
sound-blank s b = record {
  within = λ i x is. absurd (no-some x (sym (ap (λ (ss : List Span). span_in ss i) b.spans) ∙ is));
  count_is =
      ap length b.spans
      ∙ sym (ap (λ (ss : List Span). count_to (λ n. at s.slots (n - 1)) (end_of ss)) b.spans);
}

pub shows-blank : (c : Came) (s t : CameAs) → IsBlank s → IsBlank t → Shows c s → Shows c t
shows-blank c s t a b h = record {
  sound = sound-blank t b;
  parts_are =
      λ n least. at-blank t b (n - 1) ∙ sym (at-blank s a (n - 1)) ∙ h.parts_are n least;
  size_is = b.size ∙ sym a.size ∙ h.size_is;
  last_is = b.last ∙ sym a.last ∙ h.last_is;
  highest_is = ap end_of b.spans ∙ sym (ap end_of a.spans) ∙ h.highest_is;
  against_is = b.against ∙ sym a.against ∙ h.against_is;
}
