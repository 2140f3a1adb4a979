-- What was told of a stream's pieces while it is read.
use Rattle.std.specs.Prelude.{◌≡◌, List, Option, None}
use Rattle.lpt_carried.specs.Tallies.{skips_of}
use Rattle.lpt_stream.specs.Pieces.{Piece, packets_of}
use Rattle.lpt_layout_each.specs.declared.each.Teller.{Teller}
use Rattle.lpt_layout_each.specs.Helds.{HoldsEach}
use Rattle.lpt_layout_each.specs.News.{Event, Hears}
use Rattle.lpt_layout_each.specs.Streams.{events}

-- what the packets among pieces give is kept, and was told, and what was passed over is noted
pub record IsTold (first now : Teller) (heard hears : Option (List Event)) (ps : List Piece)
    : Type 0 where
  pub same : now.wanted ≡ first.wanted
  pub same_any : now.any ≡ first.any
  pub all : now.wanted.name ≡ None
  pub held : HoldsEach now.wanted.reading now.any (packets_of ps) now.helds
  pub told : Hears heard hears (events now.wanted.reading now.any (packets_of ps))
  pub skips_are : now.skips ≡ skips_of now.wanted ps
