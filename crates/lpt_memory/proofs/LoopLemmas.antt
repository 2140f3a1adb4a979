-- Reading areas one after the other.
use Rattle.std.proofs.Common.{◌≡◌, ◌∙◌, ap, sym, ℕ, suc, List, [], ◌∷◌, ◌++◌, refl, Option, Some, None, append_assoc}
use Rattle.lpt_memory.specs.Fields.{◌>>=◌, all_areas}

-- what was read before stands in front of what is read
abbrev pub with_front : {A : Type 0} → List A → Option (List A) → Option (List A)
with_front front read = read >>= λ others. Some (front ++ others)

-- with nothing in front it is what is read
pub with_front-none : {A : Type 0} (read : Option (List A)) → with_front [] read ≡ read
with_front-none (Some x) = refl
with_front-none None = refl

-- one more thing in front
pub with_front-more : {A : Type 0} (front : List A) (x : A) (read : Option (List A))
    → with_front front (read >>= λ others. Some (x ∷ others)) ≡ with_front (front ++ x ∷ []) read
with_front-more front x (Some others) = ap Some (sym (append_assoc front (x ∷ []) others))
with_front-more front x None = refl

-- an area that is read goes to the front
pub all_areas-next : {A : Type 0} (one : List ℕ → Option (A × List ℕ)) (front : List A)
    → (n m : ℕ) (octets behind : List ℕ) (x : A)
    → n ≡ suc m
    → one octets ≡ Some (x, behind)
    → with_front front (all_areas one n octets)
    ≡ with_front (front ++ x ∷ []) (all_areas one m behind)
all_areas-next one front n m octets behind x same read =
    ap (λ k. with_front front (all_areas one k octets)) same
    ∙ ap (λ r. with_front front
    (r >>= λ first. all_areas one m first.1 >>= λ others. Some (first.0 ∷ others))) read
    ∙ with_front-more front x (all_areas one m behind)

-- where an area isn't read, none are
pub all_areas-none : {A : Type 0} (one : List ℕ → Option (A × List ℕ)) (front : List A)
    → (n m : ℕ) (octets : List ℕ)
    → n ≡ suc m
    → one octets ≡ None
    → with_front front (all_areas one n octets) ≡ None
all_areas-none one front n m octets same read =
    ap (λ k. with_front front (all_areas one k octets)) same
    ∙ ap (λ r. with_front front
    (r >>= λ first. all_areas one m first.1 >>= λ others. Some (first.0 ∷ others))) read
