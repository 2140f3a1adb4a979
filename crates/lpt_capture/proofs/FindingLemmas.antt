-- What is given of what is to be found, where the octets of a source may be unknown.
use Rattle.std.proofs.Common.{◌≡◌, ◌∙◌, ap, sym, subst, ℕ, ◌≤◌, ◌<◌, ◌-◌, List, [], ◌++◌, length, Option, Some, None}
use Rattle.std.specs.Option.{option_map}
use Rattle.std.specs.Io.KnownBytes.{Consumes, IsAtEnd, Keeps, prepend_known}
use Rattle.lpt_capture.specs.declared.place.Place.{Place}
use Rattle.lpt_capture.specs.declared.place.Place.TheVariants.{Front}
use Rattle.lpt_capture.specs.Captured.{Finding, before, found_in, in_record}
use Rattle.lpt_capture.specs.States.{Gives, found_at}
use Rattle.lpt_capture.proofs.CaptureLemmas.{record_given}

pub gives-trans : (a b c : Option Finding) → Gives a b [] → Gives b c [] → Gives a c []
gives-trans None b c p q = tt
gives-trans (Some f) None c p q = absurd p
gives-trans (Some f) (Some g) None p q = absurd q
gives-trans (Some f) (Some g) (Some h) p q = p ∙ q

-- octets that are read ahead change nothing
pub gives-kept : (f : List ℕ → Finding) (a b : Option (List ℕ))
    → Keeps a b
    → Gives (option_map f a) (option_map f b) []
gives-kept f None b h = tt
gives-kept f (Some x) None h = absurd h
gives-kept f (Some x) (Some y) h = ap f (sym h)

-- a header that was passed over changes nothing
pub gives-behind : (f g : List ℕ → Finding) (h k : List ℕ) (rest : Option (List ℕ))
    → ((b : List ℕ) → (IsAtEnd rest → b ≡ []) → f (h ++ b) ≡ g (k ++ b))
    → Gives (option_map f (prepend_known h rest)) (option_map g (prepend_known k rest)) []
gives-behind f g h k None same = tt
gives-behind f g h k (Some x) same = same x (λ e. e)

-- octets that are consumed are given
pub gives-consumed : (f g : List ℕ → Finding) (a b : Option (List ℕ)) (xs : List ℕ)
    → Consumes a b xs
    → ((r : List ℕ) → f (xs ++ r) ≡ before xs (g r))
    → Gives (option_map f a) (option_map g b) xs
gives-consumed f g None b xs h made = tt
gives-consumed f g (Some x) None xs h made = absurd h
gives-consumed f g (Some x) (Some y) xs h made = ap f h ∙ made y

-- what is found of a front of which so many octets are held, or all; k of them are left
pub front-found : (p q : Place) (a : Option (List ℕ)) (h k : List ℕ) (rest : Option (List ℕ))
    → (n : ℕ)
    → p ≡ Front
    → Keeps a (prepend_known h rest)
    → (length h < n → IsAtEnd rest)
    → ((b : List ℕ) → (length h < n → b ≡ []) → found_in (h ++ b) ≡ found_at q (k ++ b))
    → Gives (option_map (found_at p) a) (option_map (found_at q) (prepend_known k rest)) []
front-found p q a h k rest n place same end found =
    let ahead = option_map found_in (prepend_known h rest) in
    let kept = gives-kept found_in a (prepend_known h rest) same in
    let front : Gives (option_map (found_at p) a) ahead [] =
    subst (λ r. Gives (option_map (found_at r) a) ahead []) (sym place) kept in
    gives-trans _ _ _ front
    (gives-behind found_in (found_at q) h k rest (λ b ended. found b (λ short. ended (end short))))

-- octets of a record are given
pub record-found : (f g : List ℕ → Finding) (at left : ℕ) (others : List ℕ
    → Finding) (a b : Option (List ℕ)) (xs zs : List ℕ)
    → Consumes a b xs
    → length xs ≤ left
    → zs ≡ xs
    → ((r : List ℕ) → f r ≡ in_record at left r others)
    → ((r : List ℕ) → g r ≡ in_record at (left - length xs) r others)
    → Gives (option_map f a) (option_map g b) zs
record-found f g at left others a b xs zs came within same front rest =
    subst (λ ys. Gives (option_map f a) (option_map g b) ys) (sym same)
    (gives-consumed f g a b xs came
    (λ r. front (xs ++ r) ∙ record_given at left xs r others within
    ∙ ap (before xs) (sym (rest r))))

-- ---- as a source
