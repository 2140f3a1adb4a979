-- What is extracted of a stream if dump reports may come in parts.
use Rattle.std.specs.Prelude.{ℕ, ◌+◌, List, [], ◌∷◌, ◌++◌, length, Option}
use Rattle.std.specs.List.{flat_map}
use Rattle.std.specs.Io.KnownBytes.{Consumes, IsAtEnd}
use Rattle.lpt_text.specs.declared.fault.StreamFault.{StreamFault}
use Rattle.lpt_stream.specs.declared.cut.Cut.{Cut}
use Rattle.lpt_stream.specs.declared.piece_kind.PieceKind.{PieceKind}
use Rattle.lpt_stream.specs.declared.piece_kind.PieceKind.TheVariants.{Whole, Damaged, Stray}
use Rattle.lpt_stream.specs.Pieces.{CutsBy, Piece, packet_before, packets_of, up_to_limit}
use Rattle.lpt_stream.specs.Takes.{LeavesBy}
use Rattle.lpt_extract.specs.declared.extracted.Extracted.{Extracted}
use Rattle.lpt_extract.specs.declared.notice.Notice.{Notice}
use Rattle.lpt_extract.specs.declared.notice.Notice.TheVariants as notices
use Rattle.lpt_extract.specs.declared.wanted.Wanted.{Wanted}
use Rattle.lpt_extract.specs.Extracts.{areas_in, is_unbroken, notices_of, AreClashing, AreMissing, Ends, LeavesFront}
use Rattle.lpt_extract.specs.Gaps.{gaps_in}
use Rattle.lpt_extract.specs.Notices.{Hears}
use Rattle.lpt_extract.specs.Reports.{report_in}
use Rattle.lpt_extract.specs.Tallies.{IsTally}

-- ---- what is read

-- what is read in place of a packet behind others
abbrev pub Reads : Type 0
Reads = (before : List (List ℕ)) → List ℕ → List (List ℕ)

-- what is read in place of packets behind others
abbrev pub reads_from : Reads → (before bs : List (List ℕ)) → List (List ℕ)
reads_from r before [] = []
reads_from r before (b ∷ bs) = r before b ++ reads_from r (before ++ b ∷ []) bs

-- what is read in place of the packets of a stream
abbrev pub reads : Reads → List (List ℕ) → List (List ℕ)
reads r bs = reads_from r [] bs

-- ---- what is told

-- of what is read as reports, at a place
abbrev pub notices_by : Wanted → (place : ℕ) → List (List ℕ) → List Notice
notices_by w n ms = flat_map (λ m. notices_of w.at n (report_in w m)) ms

-- of a piece of a stream at a place, behind packets
abbrev pub joined_at :
    Wanted → Reads → (before : List (List ℕ)) → (place : ℕ) → PieceKind → List ℕ → List Notice
joined_at w r before n Whole b = notices_by w n (r before b)
joined_at w r before n Damaged b = notices.Damaged ∷ []
joined_at w r before n Stray b = notices.Stray ∷ []

-- of pieces, one behind the other, behind packets and so many octets
abbrev pub joined_in :
    Wanted → Reads → (before : List (List ℕ)) → (octets : ℕ) → List Piece → List Notice
joined_in w r before n [] = []
joined_in w r before n (p ∷ ps) =
    joined_at w r before (up_to_limit n) p.kind p.octets
    ++ joined_in w r (before ++ packet_before p.kind p.octets []) (n + length p.octets) ps

-- ---- a stream

-- a stream was read to its end, and this holds of the pieces that it is cut into
abbrev pub ReadsCut : Cut → (before after : Option (List ℕ)) → (List Piece → Type 0) → Type 0
ReadsCut cut before after P =
    (stream : List ℕ) × (pieces : List Piece)
    × Consumes before after stream × IsAtEnd after × CutsBy cut stream pieces × P pieces

-- of a stream of these pieces what its packets give was written; what is missing, what clashes and
-- what wasn't taken was told
pub record ExtractsJoined (w : Wanted) (r : Reads) (x : Extracted) (pieces : List Piece)
    (old new : Option (List ℕ)) (heard hears : Option (List Notice)) : Type 0 where
  pub ends : Ends w.at (areas_in w (reads r (packets_of pieces)))
      (is_unbroken (gaps_in x.gaps) x.tally.passed) x.end old new
  pub missing : AreMissing w.at (areas_in w (reads r (packets_of pieces))) (gaps_in x.gaps)
  pub clashing : AreClashing w.at (areas_in w (reads r (packets_of pieces))) x.clashes
  pub told : Hears heard hears (joined_in w r [] 0 pieces)
  pub counted : IsTally (joined_in w r [] 0 pieces) x.tally

-- ---- faults

-- a front part of what the pieces give that were found before a fault
abbrev pub JoinedLeaves :
    Cut → Wanted → Reads → StreamFault → (before after old new : Option (List ℕ)) → Type 0
JoinedLeaves cut w r e before after old new =
    LeavesBy cut before after
    (λ pieces. LeavesFront e w.at (areas_in w (reads r (packets_of pieces))) old new)
