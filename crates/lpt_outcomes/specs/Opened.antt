-- The packets of a stream's requests that are open.
use Rattle.std.specs.Prelude.{◌≡◌, ◌&&◌, Bool, not, is_some, if◌then◌else◌, List, [], ◌∷◌, ◌++◌, length, drop, slice_get, ℕ, Option, Some, None, Result, Ok, Err}
use Rattle.std.specs.Io.KnownBytes.{Appends}
use Rattle.lpt_stream.specs.declared.piece_kind.PieceKind.{PieceKind}
use Rattle.lpt_layout.specs.declared.layout.Layout.{Layout}
use Rattle.lpt_stream.specs.Pieces.{Piece}
use Rattle.lpt_outcomes.specs.declared.asked.Asked.{Asked}
use Rattle.lpt_outcomes.specs.declared.passed.Beside.{Beside}
use Rattle.lpt_outcomes.specs.Passing.{in_piece}
use Rattle.lpt_outcomes.specs.Requests.{request_in}
use Rattle.lpt_outcomes.specs.Done.{has_last}

-- whether no report tells the end of a request: neither that it failed, nor the last success that
-- it asks for
abbrev pub is_open : Asked → Bool
is_open a = not (is_some a.outcome.failure) && not (has_last a.flags a.outcome)

-- which of the requests are left behind a piece: each request of the stream is the next of them
abbrev pub left_by : List Asked → Result Asked Beside → List Asked
left_by asked (Ok r) = drop 1 asked
left_by asked (Err beside) = asked

-- and behind several
abbrev pub left_behind : Layout → List Asked → List Piece → List Asked
left_behind l asked [] = asked
left_behind l asked (p ∷ ps) =
    left_behind l (left_by asked (in_piece (request_in l) p.kind p.octets)) ps

-- the octets of a request, if it is open
abbrev pub octets_open : Option Asked → List ℕ → List ℕ
octets_open None octets = []
octets_open (Some a) octets = if is_open a then octets else []

-- those of a piece that is the next request, if it is open
abbrev pub open_in : List Asked → Result Asked Beside → List ℕ → List ℕ
open_in asked (Ok r) octets = octets_open (slice_get asked 0) octets
open_in asked (Err beside) octets = []

-- those of all pieces, one behind the other
abbrev pub open_octets : Layout → List Asked → List Piece → List ℕ
open_octets l asked [] = []
open_octets l asked (p ∷ ps) =
    open_in asked (in_piece (request_in l) p.kind p.octets) p.octets
    ++ open_octets l (left_by asked (in_piece (request_in l) p.kind p.octets)) ps

-- those of these pieces were written, and so many requests are in none of them
pub record IsOpened (l : Layout) (asked : List Asked) (old new : Option (List ℕ)) (left : ℕ)
    (pieces : List Piece) : Type 0 where
  pub wrote : Appends old new (open_octets l asked pieces)
  pub left_is : left ≡ length (left_behind l asked pieces)
