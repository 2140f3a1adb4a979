-- The stretch in which a place lies.
use Rattle.std.proofs.Common.{◌≡◌, ◌∙◌, sym, refl, ℕ, zero, suc, ◌+◌, ◌-◌, ◌<◌, ◌≤◌, nat_lt, Bool, true, false, if◌then◌else◌, inl, inr, arith}
use Rattle.std.proofs.lemmas.Bool.{cases_order}
use Rattle.lpt_carried.specs.Times.{stretch_at}

-- from number i on, each stretch begins where the one before it ends
abbrev pub Follow : (start length_of : ℕ → ℕ) → ℕ → Type 0
Follow start length_of i = (x : ℕ) → i ≤ x → start (x + 1) ≡ start x + length_of x

-- later ones begin no earlier
rises : (start length_of : ℕ → ℕ) (i x k : ℕ)
    → Follow start length_of i
    → i ≤ x
    → start x ≤ start (x + k)
rises start length_of i x zero f h = let same : x + 0 ≡ x = omega arith in rw same (omega arith)
rises start length_of i x (suc k) f h =
    let next : x + suc k ≡ x + k + 1 = omega arith in
    let step = f (x + k) (omega arith) in
    let rest = rises start length_of i x k f h in
    rw next (omega (arith, step, rest))

-- where it begins there, and lies within, it is found
pub found : (start length_of : ℕ → ℕ) (k i place j at : ℕ)
    → Follow start length_of i
    → at ≡ start i + place
    → i ≤ j
    → j ≤ i + k
    → start j ≤ at
    → at < start j + length_of j
    → stretch_at length_of k i place ≡ (j, at - start j)
unfolding stretch_at
found start length_of zero i place j at f is low high from below =
    let same : i ≡ j = omega arith in
    let left : at - start i ≡ place = omega arith in
    λ x. (same x, (sym left ∙ (λ y. at - start (same y))) x)
found start length_of (suc k) i place j at f is low high from below =
    let later : Follow start length_of (i + 1) = λ x g. f x (omega arith) in
    by_test (nat_lt place (length_of i)) refl
    (λ on behind.
    found start length_of k (i + 1) (place - length_of i) j at later behind on (omega arith)
    from below) where
      by_test : (b : Bool)
          → nat_lt place (length_of i) ≡ b
          → (i + 1 ≤ j
          → at ≡ start (i + 1) + (place - length_of i)
          → stretch_at length_of k (i + 1) (place - length_of i) ≡ (j, at - start j))
          → (if b then (i, place) else stretch_at length_of k (i + 1) (place - length_of i))
          ≡ (j, at - start j)
      by_test true h go =
          let less : place < length_of i = grind (arith, h) in
          let step = f i (omega arith) in
          let same : i ≡ j = elim (cases_order i j) [
            | inl e ↦ e
            | inr (inl lt) ↦
                let n = j - (i + 1) in
                let sum : i + 1 + n ≡ j = omega arith in
                let later : start (i + 1) ≤ start j =
                rw (← sum) (rises start length_of i (i + 1) n f (omega arith)) in
                absurd (omega (arith, step, later, less))
            | inr (inr gt) ↦ absurd (omega arith)
          ] in
          let left : at - start i ≡ place = omega arith in
          λ x. (same x, (sym left ∙ (λ y. at - start (same y))) x)
      by_test false h go =
          let less : length_of i ≤ place = grind (arith, h) in
          let step = f i (omega arith) in
          let more : i + 1 ≤ j = elim (cases_order i j) [
            | inl e ↦
                let within : at < start i + length_of i = rw e below in
                absurd (omega (arith, within, less))
            | inr (inl lt) ↦ omega arith
            | inr (inr gt) ↦ absurd (omega arith)
          ] in
          go more (omega (arith, step, less))
