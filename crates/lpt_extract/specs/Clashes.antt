-- Which addresses are told for which areas gave different octets.
use Rattle.std.specs.Prelude.{◌≡◌, ◌≤◌, ℕ, false, List}
use Rattle.lpt_memory.specs.declared.request.Area.{Area}
use Rattle.lpt_extract.specs.declared.clashes.Clashes.{Clashes}
use Rattle.lpt_extract.specs.declared.cover.Cover.{Cover}
use Rattle.lpt_extract.specs.Contradictions.{is_contradicted}
use Rattle.lpt_extract.specs.CoversInside.{end_of_cover, gaps_of}
use Rattle.lpt_extract.specs.Gaps.{AreGaps}

-- the addresses that are told, as a cover of areas that have them
abbrev pub cover_of : Clashes → Cover
cover_of c = c.cover

-- these are the addresses from one on for which areas gave different octets, and no others: those
-- before an end that lie in none of the gaps
pub record AreTold (from : ℕ) (areas : List Area) (c : Clashes) : Type 0 where
  pub alike : AreGaps (is_contradicted from areas) 0 (end_of_cover (cover_of c))
      (gaps_of (cover_of c))
  pub behind : (n : ℕ) → end_of_cover (cover_of c) ≤ n → is_contradicted from areas n ≡ false
