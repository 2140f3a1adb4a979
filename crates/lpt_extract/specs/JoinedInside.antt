-- What is held and told as parts are joined.
use Rattle.std.specs.Prelude.{◌≡◌, ℕ, List, [], ◌∷◌, Option}
use Rattle.lpt_stream.specs.declared.piece_kind.PieceKind.{PieceKind}
use Rattle.lpt_stream.specs.declared.piece_kind.PieceKind.TheVariants.{Whole}
use Rattle.lpt_stream.specs.Pieces.{Piece, packets_of}
use Rattle.lpt_extract.specs.declared.holding.Holding.{Holding}
use Rattle.lpt_extract.specs.declared.joins.InPlace.{InPlace}
use Rattle.lpt_extract.specs.declared.joins.InPlace.TheVariants.{Itself, Nothing, Message}
use Rattle.lpt_extract.specs.declared.notice.Notice.{Notice}
use Rattle.lpt_extract.specs.declared.wanted.Wanted.{Wanted}
use Rattle.lpt_extract.specs.Extracts.{areas_in}
use Rattle.lpt_extract.specs.ExtractsInside.{HeldAreas}
use Rattle.lpt_extract.specs.Joined.{Reads, joined_in, reads}
use Rattle.lpt_extract.specs.Notices.{Hears}

-- what is read in place of a packet, if that isn't it itself
abbrev pub IsRead : List (List ℕ) → InPlace → Type 0
IsRead ms Itself = ⊥
IsRead ms Nothing = ms ≡ []
IsRead ms (Message m) = ms ≡ m ∷ []

-- this is read in place of a piece behind packets
abbrev pub IsInPlace : Reads → (before : List (List ℕ)) → PieceKind → List ℕ → InPlace → Type 0
IsInPlace r before k b Itself = k ≡ Whole → r before b ≡ b ∷ []
IsInPlace r before k b Nothing = (k ≡ Whole) × (r before b ≡ [])
IsInPlace r before k b (Message m) = (k ≡ Whole) × (r before b ≡ m ∷ [])

-- what the packets among pieces that begin at a place give is held, and was told
pub record IsJoined (r : Reads) (from : ℕ) (first now : Wanted) (h : Holding)
    (heard hears : Option (List Notice)) (ps : List Piece) : Type 0 where
  pub same : now ≡ first
  pub held : HeldAreas now.at (areas_in now (reads r (packets_of ps))) (joined_in now r [] from ps)
      h
  pub hears_is : Hears heard hears (joined_in now r [] from ps)
