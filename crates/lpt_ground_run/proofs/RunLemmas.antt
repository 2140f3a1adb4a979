-- Runs, one behind the other.
use Rattle.std.proofs.Common.{◌≡◌, ◌∙◌, ap, sym, refl, ℕ, zero, suc, List, [], ◌∷◌, ◌++◌, append_assoc}
use Rattle.std.specs.Prelude.{Option, replicate}
use Rattle.std.specs.Option.{option_to_list}
use Rattle.lpt_ground_run.specs.declared.runs.Outcome.{Outcome}
use Rattle.lpt_ground_run.specs.declared.runs.GroundRun.{GroundRun}
use Rattle.lpt_ground_run.specs.Runs.{spread}

pub spread-append : (xs ys : List GroundRun) → spread (xs ++ ys) ≡ spread xs ++ spread ys
spread-append [] ys = refl
spread-append (x ∷ xs) ys =
    ap (λ (l : List Outcome). replicate x.count x.outcome ++ l) (spread-append xs ys)
    ∙ sym (append_assoc (replicate x.count x.outcome) (spread xs) (spread ys))

-- one more of the same
pub replicate-more : (n : ℕ) (o : Outcome)
    → replicate (suc n) o ≡ replicate n o ++ o ∷ []
replicate-more zero o = refl
replicate-more (suc n) o = ap (λ (l : List Outcome). o ∷ l) (replicate-more n o)

-- runs with one request more
pub runs-more : (old front new : List GroundRun) (last before : Option GroundRun) (run : GroundRun)
    (o : Outcome)
    → old ≡ front ++ option_to_list last
    → spread (option_to_list before ++ run ∷ []) ≡ spread (option_to_list last) ++ o ∷ []
    → new ≡ front ++ (option_to_list before ++ run ∷ [])
    → spread new ≡ spread old ++ o ∷ []
runs-more old front new last before run o were one are =
    ap spread are ∙ spread-append front (option_to_list before ++ run ∷ [])
    ∙ ap (λ (l : List Outcome). spread front ++ l) one
    ∙ sym (append_assoc (spread front) (spread (option_to_list last)) (o ∷ []))
    ∙ ap (λ (l : List Outcome). l ++ o ∷ [])
    (sym (spread-append front (option_to_list last)) ∙ sym (ap spread were))
