-- The octets of each part, by its number.
use Rattle.std.proofs.Common.{◌≡◌, ◌∙◌, ap, refl, sym, inl, inr, ℕ, zero, suc, ◌+◌, ◌-◌, ◌<◌, ◌≤◌, Bool, true, false, if◌then◌else◌, List, ◌++◌, arith}
use Rattle.std.specs.Prelude.{Option, Some, None}
use Rattle.std.proofs.lemmas.Bool.Decides.{eqb_tells}
use Rattle.lpt_layout_join.specs.Came.{and_more, is_other, octets_joined, none_other}

no_more : (o : Option (List ℕ)) → and_more o None ≡ None
no_more (Some x) = refl
no_more None = refl

-- a part that hasn't come leaves nothing joined
joined-more : (f : ℕ → Option (List ℕ)) (k n : ℕ) → octets_joined f k ≡ None
    → octets_joined f (n + k) ≡ None
joined-more f k zero h =
    let same : zero + k ≡ k = omega arith in
    ap (octets_joined f) same ∙ h
joined-more f k (suc n) h =
    let more : suc n + k ≡ suc (n + k) = omega arith in
    ap (octets_joined f) more ∙ ap (λ o. and_more o (f (suc (n + k)))) (joined-more f k n h)

-- the part behind place k hasn't come, so n parts aren't joined
pub joined-none : (f : ℕ → Option (List ℕ)) (k n : ℕ)
    → f (suc k) ≡ None
    → k < n
    → octets_joined f n ≡ None
joined-none f k n h less =
    let here : octets_joined f (suc k) ≡ None =
    ap (and_more (octets_joined f k)) h ∙ no_more (octets_joined f k) in
    let more : n - suc k + suc k ≡ n = omega arith in
    ap (octets_joined f) (sym more) ∙ joined-more f (suc k) (n - suc k) here

-- one part more
pub joined-next : (f : ℕ → Option (List ℕ)) (k : ℕ) (a b : List ℕ)
    → octets_joined f k ≡ Some a
    → f (suc k) ≡ Some b
    → octets_joined f (suc k) ≡ Some (a ++ b)
joined-next f k a b h e = λ i. and_more (h i) (e i)

-- the part behind place k is another, so one up to n is
pub other-some : (f g : ℕ → Option (List ℕ)) (k n : ℕ)
    → is_other (f (suc k)) (g (suc k)) ≡ true
    → k < n
    → none_other f g n ≡ false
other-some f g k zero h less = absurd (omega (arith, less))
other-some f g k (suc n) h less =
    go (is_other (f (suc n)) (g (suc n))) refl (λ l. other-some f g k n h l) where
      go : (b : Bool)
          → is_other (f (suc n)) (g (suc n)) ≡ b
          → (k < n → none_other f g n ≡ false)
          → (if b then false else none_other f g n) ≡ false
      go true e before = refl
      go false e before = elim (eqb_tells k n) [
        | inl w ↦
            let both : true ≡ false = sym h ∙ ap (λ i. is_other (f (suc i)) (g (suc i))) w.1 ∙ e in
            absurd cc
        | inr w ↦ before (omega (arith, less, w.1))
      ]

-- by the octets of each number
pub others-same : (f g p q : ℕ → Option (List ℕ)) (n : ℕ)
    → ((i : ℕ) → 1 ≤ i → f i ≡ p i)
    → ((i : ℕ) → 1 ≤ i → g i ≡ q i)
    → none_other f g n ≡ none_other p q n
others-same f g p q zero h k = refl
others-same f g p q (suc n) h k =
    let least : 1 ≤ suc n = omega arith in
    λ i. if is_other (h (suc n) least i) (k (suc n) least i) then false
    else others-same f g p q n h k i
