-- The parts that a list names, item by item.
use Rattle.std.proofs.Common.{◌≡◌, ◌∙◌, ap, sym, refl, ℕ, zero, suc, ◌+◌, ◌-◌, ◌≤◌, List, [], ◌∷◌, ◌++◌, Option, Some, None, append_assoc, arith}
use native.Mathlib.Numerals.{unary_clauses}
use Rattle.lpt_split.specs.Splits.{AreNumbers}
use Rattle.lpt_split.specs.Lists.{numbers_followed, numbers_in, numbers_of, numbers_of_items, range_of, run}
use Rattle.lpt_text.specs.Items.{items_of}

-- ---- runs

-- a run and the number behind it
pub run-next : (a n : ℕ) → run a n ++ (a + n) ∷ [] ≡ run a (n + 1)
run-next a zero = ap (λ k. k ∷ []) (omega arith)
run-next a (suc n) =
    let turned : run a (suc n + 1) ≡ a ∷ run (a + 1) (n + 1) = simp unary_clauses refl in
    let more : run (a + 1) n ++ (a + 1 + n) ∷ [] ≡ run (a + 1) (n + 1) = run-next (a + 1) n in
    let same : a + suc n ≡ a + 1 + n = omega arith in
    ap (λ k. a ∷ (run (a + 1) n ++ k ∷ [])) same ∙ ap (λ ks. a ∷ ks) more ∙ sym turned

-- a run of which one more number is added behind others
pub run-pushed : (start xs : List ℕ) (a k : ℕ)
    → a ≤ k
    → xs ≡ start ++ run a (k - a)
    → xs ++ k ∷ [] ≡ start ++ run a (k + 1 - a)
run-pushed start xs a k le h =
    let here : a + (k - a) ≡ k = omega arith in
    let more : k - a + 1 ≡ k + 1 - a = omega arith in
    ap (λ ys. ys ++ k ∷ []) h
    ∙ append_assoc start (run a (k - a)) (k ∷ [])
    ∙ ap (λ j. start ++ (run a (k - a) ++ j ∷ [])) (sym here)
    ∙ ap (λ ys. start ++ ys) (run-next a (k - a))
    ∙ ap (λ n. start ++ run a n) more

-- the numbers of a run are parts
pub run-numbers : (last a n : ℕ) → 1 ≤ a → a + n ≤ last + 1 → AreNumbers last (run a n)
run-numbers last a zero some within = tt
run-numbers last a (suc n) some within =
    (record { some = some; within = omega arith }, run-numbers last (a + 1) n (omega arith) (omega arith))

-- the numbers of an item are parts
pub range-numbers : (last : ℕ) (r : ℕ × ℕ)
    → (1 ≤ r.0) × (r.0 ≤ r.1) × (r.1 ≤ last)
    → AreNumbers last (numbers_in r)
range-numbers last r h =
    run-numbers last r.0 (r.1 + 1 - r.0) h.0 (omega (arith, h.1, h.2))

pub numbers-append : (last : ℕ) (xs ys : List ℕ)
    → AreNumbers last xs
    → AreNumbers last ys
    → AreNumbers last (xs ++ ys)
numbers-append last [] ys h k = k
numbers-append last (x ∷ xs) ys h k = (h.0, numbers-append last xs ys h.1 k)

-- ---- lists

-- numbers, and those behind them, where these are there
abbrev pub behind : List ℕ → Option (List ℕ) → Option (List ℕ)
behind xs None = None
behind xs (Some ys) = Some (xs ++ ys)

behind-nil : (o : Option (List ℕ)) → behind [] o ≡ o
behind-nil None = refl
behind-nil (Some ys) = refl

-- before any item
pub read-first : (last : ℕ) (list : List ℕ)
    → behind [] (numbers_of_items last (items_of list)) ≡ numbers_of last list
unfolding numbers_of
read-first last list = behind-nil (numbers_of_items last (items_of list))

-- an item's numbers stand in front of those of the others
pub behind-item : (xs : List ℕ) (r : ℕ × ℕ) (rest : Option (List ℕ))
    → behind xs (numbers_followed (Some r) rest) ≡ behind (xs ++ numbers_in r) rest
behind-item xs r None = refl
behind-item xs r (Some ys) = ap Some (sym (append_assoc xs (numbers_in r) ys))

-- what is read of a list, an item further
pub read-next : (last : ℕ) (left item more : List ℕ) (xs : List ℕ) (r : ℕ × ℕ) (all : Option (List ℕ))
    → behind xs (numbers_of_items last (items_of left)) ≡ all
    → items_of left ≡ item ∷ items_of more
    → Some r ≡ range_of last item
    → behind (xs ++ numbers_in r) (numbers_of_items last (items_of more)) ≡ all
read-next last left item more xs r all was cut is =
    let rest = numbers_of_items last (items_of more) in
    sym (behind-item xs r rest)
    ∙ ap (λ o. behind xs (numbers_followed o rest)) is
    ∙ sym (ap (λ items. behind xs (numbers_of_items last items)) cut)
    ∙ was

-- an item that isn't read
pub read-none : (last : ℕ) (left item : List ℕ) (items : List (List ℕ)) (xs : List ℕ) (all : Option (List ℕ))
    → behind xs (numbers_of_items last (items_of left)) ≡ all
    → items_of left ≡ item ∷ items
    → None ≡ range_of last item
    → None ≡ all
read-none last left item items xs all was cut is =
    ap (λ o. behind xs (numbers_followed o (numbers_of_items last items))) is
    ∙ sym (ap (λ items. behind xs (numbers_of_items last items)) cut)
    ∙ was
