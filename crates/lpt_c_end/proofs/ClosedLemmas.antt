-- What is found among names whose first ones don't pass.
use Rattle.std.proofs.Common.{◌≡◌, ◌∙◌, ap, ℕ, zero, suc, ◌+◌, ◌-◌, ◌<◌, ◌≤◌, Bool, false, cond, Some, None, refl, arith}
use Rattle.std.specs.List.{find}
use Rattle.lpt_ledger.specs.Runs.{some_names}
use Rattle.lpt_packet.specs.Names.{Name, named_by}

-- the first k names don't pass, so that they can be left out
pub find_behind : (p : Name → Bool) (k n s id : ℕ)
    → ((i : ℕ) → id ≤ i → i < id + k → i < id + n → p (named_by s i) ≡ false)
    → find p (some_names n s id) ≡ find p (some_names (n - k) s (id + k))
unfolding some_names
find_behind p zero n s id h =
    let same : n ≡ n - 0 = omega arith in
    let here : id ≡ id + 0 = omega arith in
    ap (λ (m : ℕ). find p (some_names m s id)) same
    ∙ ap (λ (j : ℕ). find p (some_names (n - 0) s j)) here
find_behind p (suc k) zero s id h =
    let none : 0 ≡ 0 - suc k = omega arith in
    ap (λ (m : ℕ). find p (some_names m s (id + suc k))) none
find_behind p (suc k) (suc n) s id h =
    let rest : find p (some_names n s (id + 1)) ≡ find p (some_names (n - k) s (id + 1 + k)) =
    find_behind p k n s (id + 1) (λ i a b c. h i (omega arith) (omega arith) (omega arith))
    in
    let less : n - k ≡ suc n - suc k = omega arith in
    let same : id + 1 + k ≡ id + suc k = omega arith in
    ap (λ (b : Bool). cond b (Some (named_by s id)) (find p (some_names n s (id + 1))))
    (h id (omega arith) (omega arith) (omega arith))
    ∙ rest
    ∙ ap (λ (m : ℕ). find p (some_names m s (id + 1 + k))) less
    ∙ ap (λ (j : ℕ). find p (some_names (suc n - suc k) s j)) same

-- the next name
pub find_next : (p : Name → Bool) (n s id last : ℕ) → n ≡ last + 1 - id → id < last + 1
    → find p (some_names n s id)
    ≡ cond (p (named_by s id)) (Some (named_by s id))
    (find p (some_names (last + 1 - (id + 1)) s (id + 1)))
unfolding some_names
find_next p zero s id last e h = absurd (omega (arith, e, h))
find_next p (suc n) s id last e h =
    let less : n ≡ last + 1 - (id + 1) = omega (arith, e, h) in
    ap (λ (m : ℕ). cond (p (named_by s id)) (Some (named_by s id)) (find p (some_names m s (id + 1))))
    less

-- no name is left
pub find_none : (p : Name → Bool) (n s id : ℕ) → n ≡ 0 → find p (some_names n s id) ≡ None
unfolding some_names
find_none p zero s id h = refl
find_none p (suc n) s id h = absurd (omega (arith, h))
