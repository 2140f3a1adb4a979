-- What is extracted of a stream.
use Rattle.std.specs.Prelude.{◌≡◌, ◌<◌, ◌≤◌, ◌==◌, ◌+◌, ◌-◌, ◌&&◌, ◌||◌, not, ℕ, Bool, true, false, if◌then◌else◌, List, [], ◌∷◌, ◌++◌, length, map, filter, Option, Some, None}
use Rattle.std.specs.List.{flat_map}
use Rattle.std.specs.Io.KnownBytes.{Appends, Consumes, IsAtEnd}
use Rattle.lpt_text.specs.Streams.{AppendsPart}
use Rattle.lpt_text.specs.declared.fault.StreamFault.{StreamFault}
use Rattle.lpt_text.specs.declared.fault.StreamFault.TheVariants as faults
use Rattle.lpt_stream.specs.declared.piece_kind.PieceKind.{PieceKind}
use Rattle.lpt_stream.specs.declared.piece_kind.PieceKind.TheVariants.{Whole, Damaged, Stray}
use Rattle.lpt_stream.specs.declared.cut.Cut.{Cut}
use Rattle.lpt_stream.specs.Pieces.{Piece, CutsBy, packets_of, up_to_limit}
use Rattle.lpt_stream.specs.Takes.{LeavesBy}
use Rattle.lpt_carried.specs.Carried.{cut_for}
use Rattle.lpt_memory.specs.declared.request.Area.{Area}
use Rattle.lpt_memory.specs.Meanings.{area}
use Rattle.lpt_memory.specs.Requests.{LoadArea}
use Rattle.lpt_extract.specs.declared.extracted.ExtractEnd.{ExtractEnd}
use Rattle.lpt_extract.specs.declared.extracted.ExtractEnd.TheVariants as ends
use Rattle.lpt_extract.specs.declared.extracted.Extracted.{Extracted}
use Rattle.lpt_extract.specs.declared.notice.Notice.{Notice}
use Rattle.lpt_extract.specs.declared.notice.Notice.TheVariants as notices
use Rattle.lpt_extract.specs.declared.wanted.ImagePlace.{ImagePlace}
use Rattle.lpt_extract.specs.declared.wanted.Wanted.{Wanted}
use Rattle.lpt_extract.specs.Areas.{all_octets, extent, image, image_limit}
use Rattle.lpt_extract.specs.Clashes.{AreTold}
use Rattle.lpt_extract.specs.declared.clashes.Clashes.{Clashes}
use Rattle.lpt_extract.specs.Gaps.{gaps_in, is_given, AreGaps, Gap}
use Rattle.lpt_extract.specs.Notices.{is_taken, notice, Hears}
use Rattle.lpt_extract.specs.Reports.{Saying, Other, APart, Foreign, Unread, Areas, report_in}
use Rattle.lpt_extract.specs.Tallies.{IsTally}

-- ---- what reports give

-- whether the areas of a memory are wanted
abbrev pub is_of : Option ImagePlace → ℕ → Bool
is_of None m = true
is_of (Some p) m = p.memory == m

-- the areas that are taken
abbrev pub whole_areas : List LoadArea → List Area
whole_areas areas = map area (filter is_taken areas)

-- the areas that a report gives
abbrev pub areas_of : Option ImagePlace → Saying → List Area
areas_of at Other = []
areas_of at APart = []
areas_of at (Foreign apid) = []
areas_of at (Unread n) = []
areas_of at (Areas r) = if is_of at r.memory then whole_areas r.areas else []

-- the areas that packets give, in the order in which they stand
abbrev pub areas_in : Wanted → List (List ℕ) → List Area
areas_in w packets = flat_map (λ b. areas_of w.at (report_in w b)) packets

-- ---- what is told

-- of a report at a place
abbrev pub notices_of : Option ImagePlace → (place : ℕ) → Saying → List Notice
notices_of at n Other = []
notices_of at n APart = notices.OfPart n ∷ []
notices_of at n (Foreign apid) = notices.OtherApid apid ∷ []
notices_of at n (Unread k) = notices.Unread k n ∷ []
notices_of at n (Areas r) =
    if is_of at r.memory then map (notice r.memory n) r.areas else notices.OtherMemory r.memory ∷ []

-- of a piece of a stream at a place
abbrev pub notices_at : Wanted → (place : ℕ) → PieceKind → List ℕ → List Notice
notices_at w n Whole b = notices_of w.at n (report_in w b)
notices_at w n Damaged b = notices.Damaged ∷ []
notices_at w n Stray b = notices.Stray ∷ []

-- of pieces, one behind the other, with so many octets before them
abbrev pub notices_in : Wanted → (before : ℕ) → List Piece → List Notice
notices_in w n [] = []
notices_in w n (p ∷ ps) =
    notices_at w (up_to_limit n) p.kind p.octets ++ notices_in w (n + length p.octets) ps

-- ---- what is written

-- the address of the first octet that is wanted
abbrev pub start : Option ImagePlace → ℕ
start None = 0
start (Some p) = p.from

-- what is to be written of areas: their octets, or the image
abbrev pub areas_written : Option ImagePlace → List Area → List ℕ
areas_written None areas = all_octets areas
areas_written (Some p) areas = image p.from p.fill areas

-- what is written as areas come: an image only once all have
abbrev pub written_first : Option ImagePlace → List Area → List ℕ
written_first None areas = all_octets areas
written_first (Some p) areas = []

-- the image of areas isn't too large
abbrev pub Fits : Option ImagePlace → List Area → Type 0
Fits None areas = Unit {0}
Fits (Some p) areas = extent areas - p.from ≤ image_limit

-- the image of areas has so many octets, which is too many
abbrev pub IsTooLarge : Option ImagePlace → List Area → ℕ → Type 0
IsTooLarge None areas n = ⊥
IsTooLarge (Some p) areas n = (n ≡ extent areas - p.from) × (image_limit < n)

-- whether there is no gap and nothing was passed over
abbrev pub is_unbroken : List Gap → (passed : ℕ) → Bool
is_unbroken gaps passed = (length gaps == 0) && (passed == 0)

-- whether that does: an image may be wanted only if it is unbroken
abbrev pub suits : Option ImagePlace → (unbroken : Bool) → Bool
suits None u = true
suits (Some p) u = not p.whole || u

-- how an extraction ends: what is wanted of areas was written; or nothing was, if none of them
-- gives an octet that is wanted, if the image is too large, or if it was to be unbroken and
-- isn't
abbrev pub Ends : Option ImagePlace → List Area → (unbroken : Bool) → ExtractEnd
    → (old new : Option (List ℕ)) → Type 0
Ends at areas u ends.Written old new =
    (start at < extent areas) × Fits at areas × (suits at u ≡ true)
    × Appends old new (areas_written at areas)
Ends at areas u ends.Nothing old new = (extent areas ≤ start at) × Appends old new []
Ends at areas u (ends.TooLarge n) old new = IsTooLarge at areas n × Appends old new []
Ends at areas u ends.NotWhole old new =
    (start at < extent areas) × Fits at areas × (suits at u ≡ false)
    × Appends old new []

-- the addresses of the image that no area gives; without an image none
abbrev pub AreMissing : Option ImagePlace → List Area → List Gap → Type 0
AreMissing None areas gaps = gaps ≡ []
AreMissing (Some p) areas gaps = AreGaps (is_given areas) p.from (extent areas) gaps

-- the addresses of the image for which areas gave different octets are told, if it isn't too large;
-- without an image none
abbrev pub AreClashing : Option ImagePlace → List Area → Clashes → Type 0
AreClashing None areas c = Unit {0}
AreClashing (Some p) areas c = extent areas - p.from ≤ image_limit → AreTold p.from areas c

-- how a stream of these packets is cut: by checksums, if they have one
abbrev pub cut_of : Wanted → Cut
cut_of w = cut_for w.layout.has_checksum

-- a stream was read to its end, and what its packets give was written; what is missing and what
-- wasn't taken was told
pub record ExtractsTo (w : Wanted) (x : Extracted) (before after old new : Option (List ℕ))
    (heard hears : Option (List Notice)) : Type 0 where
  pub stream : List ℕ
  pub pieces : List Piece
  pub consumed : Consumes before after stream
  pub at_end : IsAtEnd after
  pub cut : CutsBy (cut_of w) stream pieces
  pub ends : Ends w.at (areas_in w (packets_of pieces))
      (is_unbroken (gaps_in x.gaps) x.tally.passed) x.end old new
  pub missing : AreMissing w.at (areas_in w (packets_of pieces)) (gaps_in x.gaps)
  pub clashing : AreClashing w.at (areas_in w (packets_of pieces)) x.clashes
  pub told : Hears heard hears (notices_in w 0 pieces)
  pub counted : IsTally (notices_in w 0 pieces) x.tally

-- ---- an end without a word

-- whether what is wanted was written
abbrev pub is_written : ExtractEnd → Bool
is_written ends.Written = true
is_written other = false

-- whether what is wanted was written, with no gap, nothing passed over, nothing but packets, and no
-- part of a message among them that wasn't joined
abbrev pub is_clean : Extracted → Bool
is_clean x =
    is_written x.end && is_unbroken (gaps_in x.gaps) x.tally.passed
    && (x.tally.damaged == 0) && (x.tally.stray == 0) && (x.tally.parts.count == 0)

-- ---- faults

-- what was written if memory ran out or a read failed is a front part of what is written as
-- areas come; if a write failed, of what is to be written
abbrev pub LeavesFront : StreamFault → Option ImagePlace → List Area → (old new : Option (List ℕ))
    → Type 0
LeavesFront faults.Write at areas old new = AppendsPart old new (areas_written at areas)
LeavesFront faults.Read at areas old new = AppendsPart old new (written_first at areas)
LeavesFront faults.Memory at areas old new = AppendsPart old new (written_first at areas)

-- a front part of what the pieces give that were found before a fault
abbrev pub ExtractLeaves : Wanted → StreamFault → (before after old new : Option (List ℕ)) → Type 0
ExtractLeaves w e before after old new =
    LeavesBy (cut_of w) before after
    (λ pieces. LeavesFront e w.at (areas_in w (packets_of pieces)) old new)
