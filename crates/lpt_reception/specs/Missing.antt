-- Which parts are missing from what was kept.
use Rattle.std.specs.Prelude.{◌≡◌, ℕ, ◌<◌, ◌≤◌, true, false, Option, Some, None, IsSomeAnd}
use Rattle.std.specs.FinMap as map
use Rattle.lpt_reception.specs.Received.{Kept, Parts, is_last}

-- this is the number of the last part that was kept; if there is no number none was
abbrev pub IsLastNumber : Parts → Option ℕ → Type 0
IsLastNumber s None = (n : ℕ) (x : Kept) → map.get s n ≡ Some x → is_last x ≡ false
IsLastNumber s (Some n) = IsSomeAnd (map.get s n) (λ x. is_last x ≡ true)

-- a number of 16 bits before that of the last part, if one was kept
pub record IsInner (s : Parts) (n : ℕ) : Type 0 where
  pub fits : n < 65536
  pub inner : (l : ℕ) (x : Kept) → map.get s l ≡ Some x → is_last x ≡ true → n < l

-- part n is missing: it wasn't kept, and the message has it, as far as is known
pub record IsMissing (s : Parts) (n : ℕ) : Type 0 where
  pub counted : 1 ≤ n
  pub known : IsInner s n
  pub absent : map.get s n ≡ None

-- the least number from one on whose part is missing, or none
abbrev pub IsNextMissing : Parts → (from : ℕ) → Option ℕ → Type 0
IsNextMissing s from None = (n : ℕ) → from ≤ n → ¬ (IsMissing s n)
IsNextMissing s from (Some n) =
    (from ≤ n) × IsMissing s n × ((k : ℕ) → from ≤ k → k < n → ¬ (IsMissing s k))
