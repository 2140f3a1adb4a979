-- Which addresses areas gave, as far as they came.
use Rattle.std.specs.Prelude.{◌≡◌, ℕ, ◌-◌, ◌<◌, ◌≤◌, ◌&&◌, ◌++◌, min, max, nat_le, nat_lt, not, Bool, true, if◌then◌else◌, List, [], ◌∷◌}
use Rattle.lpt_memory.specs.declared.request.Area.{Area}
use Rattle.lpt_extract.specs.declared.cover.Cover.{Cover}
use Rattle.lpt_extract.specs.Areas.{extent}
use Rattle.lpt_extract.specs.Gaps.{gaps_in, is_given, AreGaps, Gap}

-- the address behind the area that ends last
abbrev pub end_of_cover : Cover → ℕ
end_of_cover c = c.end

-- the gaps up to that
abbrev pub gaps_of : Cover → List Gap
gaps_of c = gaps_in c.gaps

-- the first of gaps begins behind an address
abbrev pub IsBehind : ℕ → List Gap → Type 0
IsBehind n [] = Unit {0}
IsBehind n (g ∷ gaps) = n < g.first

-- gaps stand in the order of their addresses, and apart
abbrev pub Ascend : List Gap → Type 0
Ascend [] = Unit {0}
Ascend (g ∷ gaps) = (g.first ≤ g.last) × IsBehind g.last gaps × Ascend gaps

-- whether a gap doesn't begin at one of the addresses from a up to, not including, b
abbrev pub is_apart : (a b : ℕ) → Gap → Bool
is_apart a b g = not (nat_le a g.first && nat_lt g.first b)

-- it has the gaps of these areas from an address on; the last of their addresses is no gap
pub record Covers (from : ℕ) (areas : List Area) (c : Cover) : Type 0 where
  pub end_is : end_of_cover c ≡ extent areas
  pub gaps_are : AreGaps (is_given areas) from (extent areas) (gaps_of c)
  pub reached : from < extent areas → is_given areas (extent areas - 1) ≡ true

-- what is left of a gap in front of the addresses from a up to, not including, b
abbrev pub left_of : (a : ℕ) → Gap → List Gap
left_of a g =
    if nat_lt g.first a then record { first = g.first; last = min g.last (a - 1) } ∷ [] else []

-- and behind them
abbrev pub right_of : (b : ℕ) → Gap → List Gap
right_of b g =
    if nat_le b g.last then record { first = max g.first b; last = g.last } ∷ [] else []

-- what is left of it
abbrev pub cut : (a b : ℕ) → Gap → List Gap
cut a b g = left_of a g ++ right_of b g
