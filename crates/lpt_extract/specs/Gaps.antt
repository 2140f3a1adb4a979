-- Which addresses of an image no area gave.
use Rattle.std.specs.Prelude.{◌≡◌, ℕ, ◌+◌, ◌<◌, ◌≤◌, ◌&&◌, nat_le, nat_lt, Bool, true, false, List, [], ◌∷◌, map}
use Rattle.std.specs.List.{list_any}
use Rattle.lpt_memory.specs.declared.request.Area.{Area}
use Rattle.std.specs.BTreeMap.{BTreeMap}
use Rattle.lpt_extract.specs.Areas.{end_of}

-- a run of addresses of which no octet came
pub record Gap : Type 0 where
  pub first : ℕ
  pub last : ℕ

-- the runs of which a map has the first address, and the last
abbrev pub gaps_in : BTreeMap ℕ ℕ → List Gap
gaps_in m = map (λ e. record { first = e.0; last = e.1 }) m.entries

-- whether an area has an octet of this address
abbrev pub has : Area → ℕ → Bool
has a n = nat_le a.address n && nat_lt n (end_of a)

-- whether one of these areas has
abbrev pub is_given : List Area → ℕ → Bool
is_given areas n = list_any (λ a. has a n) areas

-- addresses from a up to, not including, b are all there, or none is
abbrev pub AreAll : (ℕ → Bool) → Bool → (a b : ℕ) → Type 0
AreAll there is a b = (n : ℕ) → a ≤ n → n < b → there n ≡ is

-- the first gap among the addresses from k up to, not including, end
pub record IsGap (there : ℕ → Bool) (k end : ℕ) (gap : Gap) : Type 0 where
  pub some : gap.first ≤ gap.last
  pub within : gap.last < end
  pub from : k ≤ gap.first
  pub before : AreAll there true k gap.first
  pub missing : AreAll there false gap.first (gap.last + 1)
  pub behind : gap.last + 1 < end → there (gap.last + 1) ≡ true

-- the gaps among the addresses from k up to, not including, end, in order: each is a run of missing
-- addresses, as long as it can be, and between them all are there
abbrev pub AreGaps : (ℕ → Bool) → (k end : ℕ) → List Gap → Type 0
AreGaps there k end [] = AreAll there true k end
AreGaps there k end (gap ∷ gaps) =
    IsGap there k end gap × AreGaps there (gap.last + 1) end gaps
