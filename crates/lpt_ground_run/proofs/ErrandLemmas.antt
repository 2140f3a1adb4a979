-- The requests of an area more.
use Rattle.std.proofs.Common.{◌≡◌, ◌∙◌, ◌<◌, ap, sym, subst, refl, arith, get_or, take, ℕ, ◌+◌, List, [], ◌∷◌, ◌++◌, length, append-nil, append_assoc, length-append}
use Rattle.std.proofs.lemmas.List.{take_more}
use Rattle.lpt_memory.specs.declared.request.Area.{Area}
use Rattle.lpt_ground.specs.declared.asked.Asked.{Asked}
use Rattle.lpt_ground_run.specs.declared.heads.Heads.{Heads}
use Rattle.lpt_ground_run.specs.declared.places.Places.{Places}
use Rattle.lpt_ground_run.specs.Errands.{AreAsked, IsAskedOf, IsAt}

-- behind those of others
pub asked-more : (h next : Heads) (many : ℕ) (ps : List Places) (p : Places) (areas : List Area)
    (xs ys : List Asked)
    → AreAsked h many ps areas xs
    → IsAt h (many + length xs) next
    → IsAskedOf next p areas ys
    → AreAsked h many (ps ++ p ∷ []) areas (xs ++ ys)
asked-more h next many [] p areas xs ys are at one = (
  ys,
  [],
  ap (λ (zs : List Asked). zs ++ ys) are ∙ sym (append-nil ys),
  (
    next,
    subst (λ (n : ℕ). IsAt h n next)
        (let none : many + length xs ≡ many + 0 = ap (λ (zs : List Asked). many + length zs) are in
        none ∙ (let same : many + 0 ≡ many = omega arith in same)) at,
    one,
  ),
  refl,
)
asked-more h next many (q ∷ qs) p areas xs ys are at one =
    let front = are.0 in
    let rest = are.1 in (
      front,
      rest ++ ys,
      ap (λ (zs : List Asked). zs ++ ys) are.2 ∙ append_assoc front rest ys,
      are.3,
      asked-more h next (many + length front) qs p areas rest ys are.4
          (subst (λ (n : ℕ). IsAt h n next)
          (ap (λ (zs : List Asked). many + length zs) are.2
          ∙ ap (λ (n : ℕ). many + n) (length-append front rest)
          ∙ (let same : many + (length front + length rest) ≡ many + length front + length rest =
          omega arith in same)) at)
          one,
    )

-- the next place
pub asked-next : (h next : Heads) (ps : List Places) (i : ℕ) (d : Places) (areas : List Area)
    (xs ys zs : List Asked) (many : ℕ)
    → i < length ps
    → AreAsked h 0 (take i ps) areas xs
    → IsAt h many next
    → many ≡ length xs
    → IsAskedOf next (get_or ps i d) areas ys
    → zs ≡ xs ++ ys
    → AreAsked h 0 (take (i + 1) ps) areas zs
asked-next h next ps i d areas xs ys zs many within are at same one all =
    subst (AreAsked h 0 (take (i + 1) ps) areas) (sym all)
    (subst (λ (front : List Places). AreAsked h 0 front areas (xs ++ ys))
    (sym (take_more ps i d within))
    (asked-more h next 0 (take i ps) (get_or ps i d) areas xs ys are
    (subst (λ (n : ℕ). IsAt h n next)
    (same ∙ (let none : length xs ≡ 0 + length xs = omega arith in none)) at) one))
