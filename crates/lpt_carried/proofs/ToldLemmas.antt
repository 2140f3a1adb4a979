-- The lines of topics that are gone through one by one.
use Rattle.std.proofs.Common.{◌≡◌, ◌∙◌, ap, sym, ℕ, ◌+◌, ◌<◌, List, [], ◌∷◌, ◌++◌, length, take, Option, Some, None, get_or, append-nil}
use Rattle.std.specs.List.{filter_map, cons_option}
use Rattle.std.proofs.lemmas.List.{take_more}
use Rattle.std.proofs.lemmas.List.Elements.{filter_map-append}

-- the items that one more gives, behind the others
pub filter_map-more : {A X : Type 0} (f : X → Option A) (xs : List X) (i : ℕ) (x : X)
    → i < length xs
    → filter_map f (take (i + 1) xs)
    ≡ filter_map f (take i xs) ++ cons_option (f (get_or xs i x)) []
filter_map-more f xs i x lt =
    ap (λ ys. filter_map f ys) (take_more xs i x lt)
    ∙ filter_map-append f (take i xs) (get_or xs i x ∷ [])

-- one more that says nothing
pub told_none : {A X : Type 0} (f : X → Option A) (xs : List X) (i : ℕ) (x : X) (told : List A)
    → i < length xs
    → told ≡ filter_map f (take i xs)
    → f (get_or xs i x) ≡ None
    → told ≡ filter_map f (take (i + 1) xs)
told_none f xs i x told lt so h =
    so ∙ sym (append-nil (filter_map f (take i xs)))
    ∙ ap (λ o. filter_map f (take i xs) ++ cons_option o []) (sym h)
    ∙ sym (filter_map-more f xs i x lt)

-- one more that says something
pub told_some : {A X : Type 0} (f : X → Option A) (xs : List X) (i : ℕ) (x : X) (told : List A)
    → (line : A)
    → i < length xs
    → told ≡ filter_map f (take i xs)
    → f (get_or xs i x) ≡ Some line
    → told ++ line ∷ [] ≡ filter_map f (take (i + 1) xs)
told_some f xs i x told line lt so h =
    ap (λ t. t ++ line ∷ []) so
    ∙ ap (λ o. filter_map f (take i xs) ++ cons_option o []) (sym h)
    ∙ sym (filter_map-more f xs i x lt)
