-- The packets of a stream over a link.
use Rattle.std.specs.Prelude.{◌≡◌, ℕ, true, List, Option, Some, None}
use Rattle.lpt_stream.specs.declared.found.Found.{Found}
use Rattle.lpt_stream.specs.declared.piece_kind.PieceKind.{PieceKind}
use Rattle.lpt_stream.specs.declared.piece_kind.PieceKind.TheVariants.{Whole, Damaged, Stray}
use Rattle.lpt_stream.specs.Pieces.{is_version}
use Rattle.lpt_stream.specs.Streams.{IsFramed}

-- octets of version 0, as many as their header says
pub record IsFrame (b : List ℕ) : Type 0 where
  pub framed : IsFramed b
  pub version : is_version b ≡ true

-- a piece of this kind, if that is a packet
abbrev pub packet_as : PieceKind → Found → Option Found
packet_as Whole f = Some f
packet_as Damaged f = None
packet_as Stray f = None

-- the packet in front, if one is
abbrev pub packet_in : (front : Option Found) → Option Found
packet_in None = None
packet_in (Some f) = packet_as f.kind f
