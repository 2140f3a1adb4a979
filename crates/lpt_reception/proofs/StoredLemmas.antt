-- The parts that marks and octets keep: what is found under a number, and where a part was added.
use Rattle.std.proofs.Common.{◌≡◌, ◌≢◌, ◌∙◌, ap, sym, refl, inl, inr, ℕ, zero, suc, ◌≤◌, Bool, true, false, List, Some, None, arith, if◌then◌else◌}
use Rattle.std.specs.FinMap as map
use Rattle.std.specs.Cmp.{nat_cmp_total}
use Rattle.std.proofs.lemmas.Bool.Decides.{eqb_tells}
use Rattle.lpt_reception.specs.Marks.{is_marked}
use Rattle.lpt_reception.specs.Received.{Kept, Parts, with_part}
use Rattle.lpt_reception.specs.Stored.{top, last_in, part_in, parts_to, parts_in, IsShape}
use Rattle.lpt_reception.proofs.SetLemmas.{get_added, get_other, get_none}

-- ---- what is found

module _ (marked : ℕ → Bool) (part : ℕ → Kept) where
  -- with or without part k, what is found under another number
  found_other : (b : Bool) (k n : ℕ) (s : Parts)
      → n ≢ k
      → map.get (if b then with_part s k (part k) else s) n ≡ map.get s n
  found_other true k n s other = get_other s k (part k) n other
  found_other false k n s other = refl

  -- a marked number up to k has its part
  get-parts_to : (k n : ℕ)
      → 1 ≤ n
      → n ≤ k
      → marked n ≡ true
      → map.get (parts_to marked part k) n ≡ Some (part n)
  unfolding parts_to
  get-parts_to zero n some within is = absurd (omega arith)
  get-parts_to (suc k) n some within is = elim (eqb_tells n (suc k)) [
    | inl w ↦
        let here : marked (suc k) ≡ true = ap marked (sym w.1) ∙ is in
        let s = parts_to marked part k in
        ap (λ b. map.get (if b then with_part s (suc k) (part (suc k)) else s) n) here
        ∙ get_added s (suc k) (part (suc k)) n w.1
        ∙ ap (λ m. Some (part m)) (sym w.1)
    | inr w ↦
        let other = w.1 in
        found_other (marked (suc k)) (suc k) n (parts_to marked part k) w.1
        ∙ get-parts_to k n some (omega arith) is
  ]

  -- a number that isn't marked has none
  get-parts_to_none : (k n : ℕ)
      → marked n ≡ false
      → map.get (parts_to marked part k) n ≡ None
  unfolding parts_to
  get-parts_to_none zero n none = get_none n
  get-parts_to_none (suc k) n none = elim (eqb_tells n (suc k)) [
    | inl w ↦
        let here : marked (suc k) ≡ false = ap marked (sym w.1) ∙ none in
        let s = parts_to marked part k in
        ap (λ b. map.get (if b then with_part s (suc k) (part (suc k)) else s) n) here
        ∙ get-parts_to_none k n none
    | inr w ↦
        found_other (marked (suc k)) (suc k) n (parts_to marked part k) w.1
        ∙ get-parts_to_none k n none
  ]

module _ (p : ℕ) (ended : Bool) (marks octets : List ℕ) (shape : IsShape p ended marks octets) where
  -- part n, as it stands in the octets
  abbrev part : ℕ → Kept
  part n = part_in p (last_in ended (top p octets)) octets n

  -- under a marked number its part is found
  pub get_marked : (n : ℕ)
      → is_marked marks n ≡ true
      → map.get (parts_in p ended marks octets) n ≡ Some (part n)
  get_marked n is =
      let range = shape.within n is in
      get-parts_to (is_marked marks) part (top p octets) n range.0 range.1 is

  -- under another none is
  pub get_unmarked : (n : ℕ)
      → is_marked marks n ≡ false
      → map.get (parts_in p ended marks octets) n ≡ None
  get_unmarked n none = get-parts_to_none (is_marked marks) part (top p octets) n none

  -- what is found under a number that is marked or not
  found_by : (b : Bool) (n : ℕ) (y : Kept)
      → is_marked marks n ≡ b
      → map.get (parts_in p ended marks octets) n ≡ Some y
      → (is_marked marks n ≡ true) × (y ≡ part n)
  found_by true n y is at =
      let same = sym at ∙ get_marked n is in
      (is, cc)
  found_by false n y is at = let none = get_unmarked n is in absurd cc

  -- what is found is the part of a marked number
  pub get_cases : (n : ℕ) (y : Kept)
      → map.get (parts_in p ended marks octets) n ≡ Some y
      → (is_marked marks n ≡ true) × (y ≡ part n)
  get_cases n y at = found_by (is_marked marks n) n y refl at

  unmarked_by : (b : Bool) (n : ℕ)
      → is_marked marks n ≡ b
      → map.get (parts_in p ended marks octets) n ≡ None
      → is_marked marks n ≡ false
  unmarked_by true n is none = let some = get_marked n is in absurd cc
  unmarked_by false n is none = is

  -- where nothing is found the number isn't marked
  pub unmarked : (n : ℕ)
      → map.get (parts_in p ended marks octets) n ≡ None
      → is_marked marks n ≡ false
  unmarked n none = unmarked_by (is_marked marks n) n refl none

-- ---- one part more

-- where marks and parts differ in number n alone, it is the part that was added
pub one_more : (p : ℕ) (e f : Bool) (ms ns xs ys : List ℕ) (n : ℕ) (x : Kept)
    → IsShape p e ms xs
    → IsShape p f ns ys
    → is_marked ms n ≡ false
    → is_marked ns n ≡ true
    → ((q : ℕ) → q ≢ n → is_marked ns q ≡ is_marked ms q)
    → part_in p (last_in f (top p ys)) ys n ≡ x
    → ((q : ℕ) → q ≢ n → is_marked ms q ≡ true
    → part_in p (last_in f (top p ys)) ys q ≡ part_in p (last_in e (top p xs)) xs q)
    → parts_in p f ns ys ≡ with_part (parts_in p e ms xs) n x
one_more p e f ms ns xs ys n x old new absent marked others here kept =
    let s = parts_in p e ms xs in
    map.same_map nat_cmp_total map.nat_cmp-IsAntisymmetric (parts_in p f ns ys) (with_part s n x)
    (λ q. elim (eqb_tells q n) [
      | inl w ↦
          get_marked p f ns ys new q (ap (is_marked ns) w.1 ∙ marked)
          ∙ ap Some (ap (part_in p (last_in f (top p ys)) ys) w.1 ∙ here)
          ∙ sym (get_added s n x q w.1)
      | inr w ↦
          elim (is_marked ms q) as (λ b. is_marked ms q ≡ b → map.get (parts_in p f ns ys) q ≡ map.get s q) [
            | true ↦ λ is.
                get_marked p f ns ys new q (others q w.1 ∙ is)
                ∙ ap Some (kept q w.1 is)
                ∙ sym (get_marked p e ms xs old q is)
            | false ↦ λ none.
                get_unmarked p f ns ys new q (others q w.1 ∙ none)
                ∙ sym (get_unmarked p e ms xs old q none)
          ] refl
          ∙ sym (get_other s n x q w.1)
    ])
