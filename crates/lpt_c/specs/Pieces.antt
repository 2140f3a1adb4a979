-- The pieces of a stream, as they are found.
use Rattle.std.specs.Prelude.{ℕ, ◌==◌, not, Bool, List, Option, Some, None, Result, Ok, Err}
use Rattle.lpt_stream.specs.declared.piece_kind.PieceKind.{PieceKind}
use Rattle.lpt_stream.specs.declared.piece_kind.PieceKind.TheVariants.{Whole, Damaged, Stray}
use Rattle.lpt_stream.specs.Fronts.{shown_piece}
use Rattle.lpt_stream.specs.Pieces.{Piece}
use Rattle.lpt_c.specs.Codes.{more}

-- the number of a piece's kind
abbrev pub kind_number : PieceKind → ℕ
kind_number Whole = 1
kind_number Damaged = 2
kind_number Stray = 3

-- what a number says: 0 no, all others yes
abbrev pub is_set : ℕ → Bool
is_set n = not (n == 0)

-- a piece, if it is shown
abbrev pub piece_found : Option Piece → Result Piece ℕ
piece_found (Some p) = Ok p
piece_found None = Err more

-- the piece in front of octets of a stream
abbrev pub piece_read : (in_step is_end : ℕ) → List ℕ → Result Piece ℕ
piece_read s e b = piece_found (shown_piece (is_set s) (is_set e) b)
