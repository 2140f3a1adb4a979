-- The greatest number that was kept is that of the part whose octets stand last.
use Rattle.std.proofs.Common.{◌≡◌, ◌∙◌, sym, refl, ℕ, ◌≤◌, nat_lt, Bool, true, false, if◌then◌else◌, T, List, [], ◌∷◌, Some, inl, inr, arith}
use Rattle.std.proofs.lemmas.Bool.Decides.{nat_tests}
use Rattle.std.specs.FinMap as map
use Rattle.std.specs.FinMap.Entries.{find, is_sorted}
use Rattle.std.specs.Ordering.{nat_cmp}
use Rattle.lpt_packet.proofs.EntryLemmas.{found_first, found_cases, found_still, up_rest}
use Rattle.lpt_reception.specs.Received.{Kept, no_parts, greatest_of, greatest}
use Rattle.lpt_reception.proofs.SetLemmas.{get_none}
use Rattle.lpt_reception.specs.Stored.{top, parts_in, IsShape}
use Rattle.lpt_reception.proofs.StoredLemmas.{get_cases}
use Rattle.lpt_reception.proofs.PlaceLemmas.{top_came}

greater_most : (g n t : ℕ) → g ≤ t → n ≤ t → (if nat_lt g n then n else g) ≤ t
greater_most g n t a b = go (nat_lt g n) where
  go : (x : Bool) → (if x then n else g) ≤ t
  go true = b
  go false = a

greater_least : (g n q : ℕ) → (q ≤ g) → q ≤ (if nat_lt g n then n else g)
greater_least g n q h = go (nat_lt g n) refl where
  go : (x : Bool) → nat_lt g n ≡ x → q ≤ (if x then n else g)
  go true e = grind (arith, nat_tests)
  go false e = h

greater_last : (g n : ℕ) → n ≤ (if nat_lt g n then n else g)
greater_last g n = go (nat_lt g n) refl where
  go : (x : Bool) → nat_lt g n ≡ x → n ≤ (if x then n else g)
  go true e = omega arith
  go false e = grind (arith, nat_tests)

-- no number of a list in order is above t: nor is the greatest
pub greatest_most : (t : ℕ) (es : List (ℕ × Kept))
    → T (is_sorted nat_cmp es)
    → ((q : ℕ) (y : Kept) → find nat_cmp q es ≡ Some y → q ≤ t)
    → greatest_of es ≤ t
greatest_most t [] up most = omega arith
greatest_most t (e ∷ es) up most =
    greater_most (greatest_of es) e.0 t
    (greatest_most t es (up_rest e es up) (λ q y at. most q y (found_still q y e es up at)))
    (most e.0 e.1 (found_first e.0 e es refl))

-- a number that is found is no greater than the greatest
pub greatest_least : (q : ℕ) (y : Kept) (es : List (ℕ × Kept))
    → find nat_cmp q es ≡ Some y
    → q ≤ greatest_of es
greatest_least q y [] at = absurd cc
greatest_least q y (e ∷ es) at = elim (found_cases q y e es at) [
  | inl w ↦ let last = greater_last (greatest_of es) e.0 in let same : q ≡ e.0 = w.0 in omega (arith, last, same)
  | inr w ↦ greater_least (greatest_of es) e.0 q (greatest_least q y es w.1)
]

pub greatest_is : (p : ℕ) (ended : Bool) (marks octets : List ℕ)
    → IsShape p ended marks octets
    → greatest (parts_in p ended marks octets) ≡ top p octets
greatest_is p ended marks octets shape = go (nat_lt 0 (top p octets)) refl where
  s : map.FinMap nat_cmp Kept
  s = parts_in p ended marks octets

  most : greatest s ≤ top p octets
  most = greatest_most (top p octets) (map.entries s) (map.entries_sorted s)
      (λ q y at. (shape.within q (get_cases p ended marks octets shape q y (map.get-entries s q ∙ at)).0).1)

  least : 1 ≤ top p octets → top p octets ≤ greatest s
  least some =
      greatest_least (top p octets) _ (map.entries s)
      (sym (map.get-entries s (top p octets)) ∙ top_came p ended marks octets shape some)

  go : (x : Bool) → nat_lt 0 (top p octets) ≡ x → greatest s ≡ top p octets
  go true e = let some : 1 ≤ top p octets = grind (arith, nat_tests) in omega (arith, most, least some)
  go false e = let none : top p octets ≡ 0 = grind (arith, nat_tests) in omega (arith, most)

-- where nothing is kept it is 0
pub greatest_none : greatest no_parts ≡ 0
greatest_none = omega (arith, least) where
  least : greatest no_parts ≤ 0
  least = greatest_most 0 (map.entries no_parts) (map.entries_sorted no_parts)
      (λ q y at. absurd (let none = sym (get_none q) ∙ map.get-entries no_parts q ∙ at in cc))
