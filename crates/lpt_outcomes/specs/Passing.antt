-- What is passed over of a stream of requests, or of reports on them.
use Rattle.std.specs.Prelude.{◌≡◌, ℕ, ◌==◌, ◌&&◌, Bool, true, false, List, map, count_by, Result, Err}
use Rattle.std.specs.List.{filter_map}
use Rattle.std.specs.Result.{result_ok, result_err}
use Rattle.lpt_stream.specs.declared.piece_kind.PieceKind.{PieceKind}
use Rattle.lpt_stream.specs.declared.piece_kind.PieceKind.TheVariants as piece
use Rattle.lpt_stream.specs.Pieces.{Piece, up_to_limit}
use Rattle.lpt_outcomes.specs.declared.passed.Beside.{Beside}
use Rattle.lpt_outcomes.specs.declared.passed.Beside.TheVariants.{Part, Foreign, Unread, Damaged, Stray}
use Rattle.lpt_outcomes.specs.declared.passed.Passed.{Passed}

-- ---- pieces

-- what a piece is by this reading of packets' octets: one of those that are looked for, or beside
abbrev pub in_piece : {A : Type 0} → (List ℕ → Result A Beside) → PieceKind → List ℕ
    → Result A Beside
in_piece read piece.Whole b = read b
in_piece read piece.Damaged b = Err Damaged
in_piece read piece.Stray b = Err Stray

-- what the pieces of a stream are by it
abbrev pub pieces_met : {A : Type 0} → (List ℕ → Result A Beside) → List Piece
    → List (Result A Beside)
pieces_met read pieces = map (λ (p : Piece). in_piece read p.kind p.octets) pieces

-- those among them that are looked for
abbrev pub all_found : {A : Type 0} → (List ℕ → Result A Beside) → List Piece → List A
all_found read pieces = filter_map result_ok (pieces_met read pieces)

-- and what the others are
abbrev pub passed_over : {A : Type 0} → (List ℕ → Result A Beside) → List Piece → List Beside
passed_over read pieces = filter_map result_err (pieces_met read pieces)

-- ---- counts

abbrev pub is_part : Beside → Bool
is_part Part = true
is_part other = false

abbrev pub is_foreign : Beside → Bool
is_foreign Foreign = true
is_foreign other = false

abbrev pub is_unread : Beside → Bool
is_unread Unread = true
is_unread other = false

abbrev pub is_damaged : Beside → Bool
is_damaged Damaged = true
is_damaged other = false

abbrev pub is_stray : Beside → Bool
is_stray Stray = true
is_stray other = false

-- how many of each there are
pub record IsPassed (bs : List Beside) (p : Passed) : Type 0 where
  pub parts_are : p.parts ≡ up_to_limit (count_by is_part bs)
  pub foreign_are : p.foreign ≡ up_to_limit (count_by is_foreign bs)
  pub unread_are : p.unread ≡ up_to_limit (count_by is_unread bs)
  pub damaged_are : p.damaged ≡ up_to_limit (count_by is_damaged bs)
  pub stray_are : p.stray ≡ up_to_limit (count_by is_stray bs)

-- whether there is nothing to tell
abbrev pub is_nothing : Passed → Bool
is_nothing p =
    (p.parts == 0) && (p.foreign == 0) && (p.unread == 0) && (p.damaged == 0) && (p.stray == 0)
