-- What was read of a stream of packets.
use Rattle.std.specs.Prelude.{◌≡◌, ℕ, ◌-◌, ◌^◌, Bool, true, List, length, Option}
use Rattle.std.specs.Io.KnownBytes.{Consumes, IsAtEnd}
use Rattle.lpt_stream.specs.declared.cut.Cut.{Cut}
use Rattle.lpt_stream.specs.declared.cut.Cut.TheVariants.{Sealed}
use Rattle.lpt_stream.specs.Pieces.{Piece, Cuts, Finds, LeadsBy}

-- a stream was read to its end, and this holds of the packets that are found in it
abbrev pub ReadsAll : Option (List ℕ) → Option (List ℕ) → (List (List ℕ) → Type 0) → Type 0
ReadsAll old new P =
    (stream : List ℕ) × (packets : List (List ℕ))
    × Consumes old new stream × IsAtEnd new × Finds stream packets × P packets

-- a stream was read to its end, and this holds of the pieces that it is cut into
abbrev pub ReadsPieces : (before after : Option (List ℕ)) → (List Piece → Type 0) → Type 0
ReadsPieces before after P =
    (stream : List ℕ) × (pieces : List Piece)
    × Consumes before after stream × IsAtEnd after × Cuts stream pieces × P pieces

-- 2^64 - 1 pieces were read of a stream, by this cut
abbrev pub IsEndlessBy : Cut → (before after : Option (List ℕ)) → Type 0
IsEndlessBy cut before after =
    (stream : List ℕ) × (pieces : List Piece) × (in_step : Bool) × (rest : List ℕ)
    × Consumes before after stream × LeadsBy cut true stream pieces in_step rest
    × (length pieces ≡ 2 ^ 64 - 1)

-- the same by checksums
abbrev pub IsEndless : (before after : Option (List ℕ)) → Type 0
IsEndless before after = IsEndlessBy Sealed before after
