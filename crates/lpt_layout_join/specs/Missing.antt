-- Which numbers are missing, and which is the highest.
use Rattle.std.specs.Prelude.{◌≡◌, ◌⊎◌, ℕ, ◌+◌, ◌<◌, ◌≤◌, Bool, true, false, List, [], ◌∷◌}

-- numbers from a up to, not including, b are all there, or none is
abbrev pub AreAll : (ℕ → Bool) → Bool → (a b : ℕ) → Type 0
AreAll there is a b = (n : ℕ) → a ≤ n → n < b → there n ≡ is

-- the first gap among the numbers from k to last
pub record IsGap (there : ℕ → Bool) (k last : ℕ) (gap : ℕ × ℕ) : Type 0 where
  pub some : gap.0 ≤ gap.1
  pub within : gap.1 ≤ last
  pub from : k ≤ gap.0
  pub before : AreAll there true k gap.0
  pub missing : AreAll there false gap.0 (gap.1 + 1)
  pub behind : gap.1 < last → there (gap.1 + 1) ≡ true

-- the gaps among the numbers from k to last, in order: each is a run of missing numbers, as long as
-- it can be, and between them all are there
abbrev pub AreGaps : (ℕ → Bool) → (k last : ℕ) → List (ℕ × ℕ) → Type 0
AreGaps there k last [] = AreAll there true k (last + 1)
AreGaps there k last (gap ∷ gaps) = IsGap there k last gap × AreGaps there (gap.1 + 1) last gaps

-- the number is the highest that is there, or 0 if none is
pub record IsHighest (there : ℕ → Bool) (last : ℕ) : Type 0 where
  pub most : (n : ℕ) → there n ≡ true → n ≤ last
  pub is : (last ≡ 0) ⊎ (there last ≡ true)
