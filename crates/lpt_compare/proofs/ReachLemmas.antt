-- How far areas that agree reach, one after the other.
use Rattle.std.proofs.Common.{◌≡◌, ap, refl, ℕ, ◌+◌, ◌<◌, ◌≤◌, inl, inr, ◌&&◌, true, false, Bool, List, length, get_or, arith}
use Rattle.std.specs.List.Sorted.{IsNonDecreasingBy}
use Rattle.std.proofs.lemmas.Bool.{cases_lt}
use Rattle.std.proofs.lemmas.List.Folds.{list_any_at, list_any_none}
use Rattle.lpt_compare.specs.declared.checked.Checked.{Checked}
use Rattle.lpt_compare.specs.Images.{agrees, has, is_shown, AreShown}

module _ (from : ℕ) (octets : List ℕ) (checks : List Checked) where
  -- of the first areas none that agrees ends behind a place
  abbrev pub Past : (i at : ℕ) → Type 0
  Past i at = (k : ℕ) (d : Checked) → k < i
      → agrees from octets (get_or checks k d) ≡ true
      → (get_or checks k d).address + (get_or checks k d).len ≤ at

  both : (x y : Bool) → (x ≡ true → y ≡ false) → (y && x) ≡ false
  both true y h = ap (λ z. z && true) (h refl)
  both false true h = refl
  both false false h = refl

  -- where the others begin behind it, it isn't shown
  pub open-at : (i at : ℕ)
      → Past i at
      → ((k : ℕ) (d : Checked) → i ≤ k → k < length checks → at < (get_or checks k d).address)
      → is_shown from octets checks at ≡ false
  open-at i at past later =
      list_any_none (λ c. has c at && agrees from octets c) checks (λ k d low.
      let c = get_or checks k d in
      both (agrees from octets c) (has c at) (λ agree.
      elim (cases_lt k i) as (λ x. has c at ≡ false) [
        | inl l ↦ let end = past k d l agree in grind (arith, end)
        | inr l ↦ let begin = later k d l low in grind (arith, begin)
      ]))

  -- one that agrees, and that begins no later, shows all up to its end
  pub shown-to : (i at : ℕ) (d : Checked)
      → i < length checks
      → AreShown from octets checks from at
      → (get_or checks i d).address ≤ at
      → agrees from octets (get_or checks i d) ≡ true
      → AreShown from octets checks from ((get_or checks i d).address + (get_or checks i d).len)
  shown-to i at d low shown begin agree n a b =
      elim (cases_lt n at) as (λ x. is_shown from octets checks n ≡ true) [
        | inl l ↦ shown n a l
        | inr l ↦
            let c = get_or checks i d in
            let mine : has c n ≡ true = grind (arith, l, begin, b) in
            list_any_at (λ c. has c n && agrees from octets c) checks i d low
            (λ j. mine j && agree j)
      ]
