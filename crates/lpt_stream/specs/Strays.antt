-- Octets of no packet, one behind the other.
use Rattle.std.specs.Prelude.{ℕ, suc, Bool, true, false, if◌then◌else◌, List, [], ◌∷◌, Option, Some, None}
use Rattle.lpt_stream.specs.declared.piece_kind.PieceKind.{PieceKind}
use Rattle.lpt_stream.specs.declared.piece_kind.PieceKind.TheVariants.{Whole, Damaged, Stray}
use Rattle.lpt_stream.specs.Fronts.{shown_piece}
use Rattle.lpt_stream.specs.Pieces.{Piece}

-- an octet with which neither a packet begins, nor what is as long as one
abbrev pub is_octet_of_none : PieceKind → Bool
is_octet_of_none Whole = false
is_octet_of_none Damaged = false
is_octet_of_none Stray = true

abbrev pub is_stray_piece : Option Piece → Bool
is_stray_piece (Some p) = is_octet_of_none p.kind
is_stray_piece None = false

-- whether such an octet is shown in front, out of step
abbrev pub is_stray : (is_end : Bool) → List ℕ → Bool
is_stray e b = is_stray_piece (shown_piece false e b)

-- so many of them stand in front
unfoldable pub strays_in : (is_end : Bool) → List ℕ → ℕ
strays_in e [] = 0
strays_in e (x ∷ b) = if is_stray e (x ∷ b) then suc (strays_in e b) else 0
