-- What is kept of a stream's pieces while it is read.
use Rattle.std.specs.Prelude.{◌≡◌, ℕ, List}
use Rattle.lpt_carried.specs.declared.wanted.Wanted.{Wanted}
use Rattle.lpt_carried.specs.Tallies.{skips_of}
use Rattle.lpt_stream.specs.Pieces.{Piece, packets_of}
use Rattle.lpt_layout_join.specs.declared.several.Findings.{Findings}
use Rattle.lpt_layout_join.specs.declared.several.Gatherer.{Gatherer}
use Rattle.lpt_layout_join.specs.Counts.{all_counted, nothing_counted}
use Rattle.lpt_layout_join.specs.CountsInside.{counts_shown}
use Rattle.lpt_layout_join.specs.Gatherings.{GivesEach}

-- what these pieces give of each transaction that is wanted, how many counts are missing among
-- them, and what was passed over
pub record Gathers (w : Wanted) (now : Findings) (ps : List Piece) : Type 0 where
  pub gives : GivesEach w.reading w.name ps now.gatherings
  pub counts_are : counts_shown now.counts
      ≡ all_counted w.reading nothing_counted (packets_of ps)
  pub skips_are : now.skips ≡ skips_of w ps

-- the same of a taker that takes pieces of a stream from its front on
pub record Takes (from : ℕ) (first now : Gatherer) (found : Findings) (ps : List Piece) :
    Type 0 where
  pub front : from ≡ 0
  pub same : now.wanted.now ≡ first.wanted.now
  pub gathers : Gathers first.wanted.now found ps
