-- What octets show of the piece in front of them.
use Rattle.std.specs.Prelude.{◌≡◌, ℕ, ◌==◌, ◌&&◌, ◌||◌, not, Bool, true, if◌then◌else◌, List, [], ◌++◌, length, take, Option, Some, None}
use Rattle.lpt_stream.specs.declared.found.Found.{Found}
use Rattle.lpt_stream.specs.Pieces.{Piece, begins, lookahead, piece_at, waits}

-- whether they show it: there are some, and a packet begins there, nothing comes behind them, or
-- it depends on nothing that may
abbrev pub shows : (in_step is_end : Bool) → List ℕ → Bool
shows s e b =
    not (length b == 0)
    && (begins s (take lookahead b) || e || not (waits s (take lookahead b)))

-- the piece in front, if they show it
abbrev pub shown_piece : (in_step is_end : Bool) → List ℕ → Option Piece
shown_piece s e b = if shows s e b then Some (piece_at s b) else None

-- a piece as it was found in front of octets
abbrev pub found_in : List ℕ → Found → Piece
found_in b f = record { kind = f.kind; octets = take f.len b }

-- it stands in front, whatever comes behind
abbrev pub Stays : (in_step is_end : Bool) → List ℕ → Piece → Type 0
Stays s e b p = (more : List ℕ) → (e ≡ true → more ≡ []) → piece_at s (b ++ more) ≡ p
