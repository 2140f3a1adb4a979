-- What was taken of a stream, piece after piece.
use Rattle.std.specs.Prelude.{◌≡◌, ◌⊎◌, ℕ, Bool, true, false, List, [], ◌++◌, Option}
use Rattle.std.specs.Io.KnownBytes.{Consumes, IsAtEnd}
use Rattle.lpt_stream.specs.declared.cut.Cut.{Cut}
use Rattle.lpt_stream.specs.Pieces.{Piece, LeadsBy, waits_by}

-- a taker has become something by these pieces
abbrev pub HasTaken : {T W : Type 0} → ((now : T) → (old new : W) → List Piece → Type 0)
    → (old new : W) → List Piece → Type 0
HasTaken {T} takes old new pieces = (now : T) × takes now old new pieces

-- a stream was read to its end, or until no more was taken, and this holds of its pieces
pub record ReadsBy (cut : Cut) (before after : Option (List ℕ)) (is_open : Bool)
    (P : List Piece → Type 0) : Type 0 where
  pub stream : List ℕ
  pub pieces : List Piece
  pub in_step : Bool
  pub rest : List ℕ
  pub consumed : Consumes before after stream
  pub leads : LeadsBy cut true stream pieces in_step rest
  pub ends : ((rest ≡ []) × IsAtEnd after) ⊎ (is_open ≡ false)
  pub gives : P pieces

-- the pieces that were found before a fault, of which this holds, and maybe octets behind them that
-- were read
pub record LeavesBy (cut : Cut) (before after : Option (List ℕ)) (P : List Piece → Type 0) :
    Type 0 where
  pub stream : List ℕ
  pub others : List ℕ
  pub pieces : List Piece
  pub in_step : Bool
  pub rest : List ℕ
  pub consumed : Consumes before after (stream ++ others)
  pub leads : LeadsBy cut true stream pieces in_step rest
  pub front : P pieces

-- all pieces that what was read shows, of which this holds: what is in front of the rest depends on
-- octets that may still come
pub record TakenAll (cut : Cut) (before after : Option (List ℕ)) (P : List Piece → Type 0) :
    Type 0 where
  pub stream : List ℕ
  pub pieces : List Piece
  pub in_step : Bool
  pub rest : List ℕ
  pub consumed : Consumes before after stream
  pub leads : LeadsBy cut true stream pieces in_step rest
  pub waits : waits_by cut in_step rest ≡ true
  pub gives : P pieces
