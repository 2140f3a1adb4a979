-- What becomes of a stream of which each packet is split as a message of its own.
use Rattle.std.specs.Prelude.{◌≡◌, ◌⊎◌, ◌<◌, ◌≤◌, ◌+◌, ◌^◌, ℕ, Bool, true, false, if◌then◌else◌, List, [], ◌∷◌, length, map, Option, Result, Ok, Err}
use Rattle.std.specs.Io.KnownBytes.{Appends, Consumes, IsAtEnd}
use Rattle.lpt_layout.specs.Numbers.{octets_of}
use Rattle.lpt_split.specs.declared.writing.Writing.{Writing}
use Rattle.lpt_split.specs.Splits.{written_in}
use Rattle.lpt_stream.specs.declared.cut.Cut.TheVariants.{Framed}
use Rattle.lpt_stream.specs.declared.piece_kind.PieceKind.TheVariants.{Whole}
use Rattle.lpt_stream.specs.Pieces.{Piece, LeadsBy, is_version, up_to_limit}
use Rattle.lpt_stream.specs.Streams.{all_octets, IsUnfinished}
use Rattle.lpt_text.specs.Streams.{AppendsPart}
use Rattle.lpt_text.specs.declared.fault.StreamFault.{StreamFault}
use Rattle.lpt_text.specs.declared.fault.StreamFault.TheVariants as faults
use Rattle.lpt_split.specs.MessagesEach.{IsMessage, AreMessages}
use Rattle.lpt_split.specs.Shares.{AreAll, IsRefused}
use Rattle.lpt_split.specs.declared.each_wanted.EachWanted.{EachWanted}
use Rattle.lpt_split.specs.declared.ending.EachEnd.{EachEnd}
use Rattle.lpt_split.specs.declared.ending.EachEnd.TheVariants.{End, Cut, Stray, NoMessage, Unsplit, NoIdentifier}
use Rattle.lpt_split.specs.declared.ending.EachSplit.{EachSplit}

-- a packet as a piece of a stream
abbrev pub whole : List ℕ → Piece
whole m = record { kind = Whole; octets = m }

-- a stream is cut into these packets, by the lengths that headers of version 0 say, and a rest
abbrev pub IsCut : (stream : List ℕ) → List (List ℕ) → (rest : List ℕ) → Type 0
IsCut stream packets rest = LeadsBy Framed true stream (map whole packets) true rest

-- octets were read, and cut into messages of the direction and a rest of which this holds
abbrev pub ReadsMessages : Writing → (before after : Option (List ℕ))
    → (List (List ℕ) → List ℕ → Type 0) → Type 0
ReadsMessages w before after P =
    (stream : List ℕ) × (messages : List (List ℕ)) × (rest : List ℕ)
    × Consumes before after stream × IsCut stream messages rest × AreMessages w messages
    × P messages rest

-- how a split ends before octets with which no whole packet begins, at this place: in a packet, as
-- far as their version says, or before what is none
abbrev pub end_at : (place : ℕ) → List ℕ → EachEnd
end_at place b = if is_version b then Cut place else Stray place

-- another packet stands in front
abbrev pub IsNext : (m rest : List ℕ) → Type 0
IsNext m rest = (behind : List ℕ) × IsCut rest (m ∷ []) behind

-- the front of a packet, and less than it
pub record IsFront (b : List ℕ) : Type 0 where
  pub some : 0 < length b
  pub version : is_version b ≡ true
  pub less : IsUnfinished b

-- so many identifiers the layout has
abbrev pub identifiers : EachWanted → ℕ
identifiers w = 256 ^ octets_of w.writing.parts.id

-- it ends there: before the message of this identifier and sequence count, behind so many octets of
-- messages
abbrev pub EndsAt : EachWanted → (next count len : ℕ) → EachEnd → (rest : List ℕ)
    → (after : Option (List ℕ)) → Type 0
EndsAt w next count len End rest after = (rest ≡ []) × IsAtEnd after
EndsAt w next count len (Cut place) rest after =
    (place ≡ up_to_limit len) × IsFront rest × IsAtEnd after
EndsAt w next count len (Stray place) rest after =
    (place ≡ up_to_limit len) × (is_version rest ≡ false)
EndsAt w next count len (NoMessage place) rest after =
    (place ≡ up_to_limit len) × (next < identifiers w)
    × ((m : List ℕ) × IsNext m rest × (IsMessage w.writing m → ⊥))
EndsAt w next count len (Unsplit end) rest after =
    (next < identifiers w)
    × ((m : List ℕ) × IsNext m rest × IsMessage w.writing m × IsRefused w next count m end)
EndsAt w next count len (NoIdentifier place) rest after =
    (place ≡ up_to_limit len) × (identifiers w ≤ next)
    × ((next ≡ identifiers w) ⊎ (next ≡ w.id)) × ((m : List ℕ) × IsNext m rest)

-- whether it ended at the stream's end
abbrev pub is_end : EachEnd → Bool
is_end End = true
is_end (Cut place) = false
is_end (Stray place) = false
is_end (NoMessage place) = false
is_end (Unsplit end) = false
is_end (NoIdentifier place) = false

-- these packets were written, in the form that is wanted, and a front part of them
abbrev pub Writes : EachWanted → (old new : Option (List ℕ)) → List (List ℕ) → Type 0
Writes w old new packets = Appends old new (written_in w.writing.form w.writing.clock packets)

abbrev pub WritesPart : EachWanted → (old new : Option (List ℕ)) → List (List ℕ) → Type 0
WritesPart w old new packets =
    AppendsPart old new (written_in w.writing.form w.writing.clock packets)

-- they were written, if they are those of all of the stream; else nothing was
abbrev pub WritesAll : EachWanted → (all : Bool) → (old new : Option (List ℕ))
    → List (List ℕ) → Type 0
WritesAll w true old new packets = Writes w old new packets
WritesAll w false old new packets = new ≡ old

-- octets were read, and nothing was written
abbrev pub WritesNothing : (before after old new : Option (List ℕ)) → Type 0
WritesNothing before after old new =
    (stream : List ℕ) × Consumes before after stream × (new ≡ old)

-- How it ends. Ok: each packet before that place is a message and took an identifier; at the
-- stream's end all that is wanted of them was written, and elsewhere nothing. Read, Memory: nothing
-- was. Write: it broke off as it was written.
abbrev pub SplitsEach : EachWanted → Result EachSplit StreamFault
    → (before after old new : Option (List ℕ)) → Type 0
SplitsEach w (Ok s) before after old new =
    ReadsMessages w.writing before after (λ ms rest.
    (s.next ≡ w.id + length ms)
    × ((behind : ℕ) × (packets : List (List ℕ)) × AreAll w w.id w.first ms behind packets
    × EndsAt w s.next behind (length (all_octets ms)) s.end rest after
    × WritesAll w (is_end s.end) old new packets))
SplitsEach w (Err faults.Read) before after old new = WritesNothing before after old new
SplitsEach w (Err faults.Write) before after old new =
    ReadsMessages w.writing before after (λ ms rest.
    (rest ≡ []) × IsAtEnd after
    × ((behind : ℕ) × (packets : List (List ℕ)) × AreAll w w.id w.first ms behind packets
    × WritesPart w old new packets))
SplitsEach w (Err faults.Memory) before after old new = WritesNothing before after old new
