-- Why a piece of a stream is none of the parts that are wanted.
use Rattle.std.specs.Prelude.{refl, ℕ, ◌&&◌, nat_le, if◌then◌else◌, List, length, Option, Some, None, Result, Ok, Err}
use Rattle.lpt_carried.specs.declared.name.Name.{Name}
use Rattle.lpt_carried.specs.declared.reading.Reading.{Reading}
use Rattle.lpt_carried.specs.declared.skip.Skip.{Skip}
use Rattle.lpt_carried.specs.declared.skip.Skip.TheVariants as skip
use Rattle.lpt_carried.specs.Carried.{Named, part_carried, name_of, same_name}
use Rattle.lpt_part.specs.declared.fault.PartFault.{PartFault}
use Rattle.lpt_part.specs.declared.fault.PartFault.TheVariants.{ShortPart, Zero, KindNumber, PartLength, AbortBody}
use Rattle.lpt_part.specs.declared.kind.Kind.{Kind}
use Rattle.lpt_part.specs.declared.kind.Kind.TheVariants.{First, Middle, Last}
use Rattle.lpt_pus.specs.declared.fault.PusFault.{PusFault}
use Rattle.lpt_pus.specs.declared.fault.PusFault.TheVariants.{PusVersion, WrongType, ShortHeader, TooLong, Memory}
use Rattle.lpt_stream.specs.declared.piece_kind.PieceKind.{PieceKind}
use Rattle.lpt_stream.specs.declared.piece_kind.PieceKind.TheVariants as piece
use Rattle.lpt_stream.specs.Pieces.{Piece}
use Rattle.lpt_carried.specs.declared.wanted.Wanted.{Wanted}
use Rattle.lpt_carried.specs.declared.why.Why.{Why}
use Rattle.lpt_carried.specs.declared.why.Why.TheVariants.{Taken, Damaged, Stray, OtherApid, OtherDirection, NoNumber, Unread, OtherName, NoPart}

-- the same parts, of a size that isn't known
abbrev pub sizeless : Reading → Reading
sizeless r = record {
  direction = r.direction;
  apid = r.apid;
  layout = r.layout;
  parts = r.parts;
  part_size = None;
  size = refl;
}

-- the part size that a first part shows: it has as many octets. The number of another may be any
abbrev pub size_shown : Kind → ℕ → Option ℕ
size_shown First len = if nat_le 4 len && nat_le len 1024 then Some len else None
size_shown Middle len = None
size_shown Last len = None

-- the same of what is carried, if it is a part
abbrev pub fitting_by : Result Named Skip → Option ℕ
fitting_by (Ok c) = size_shown c.piece.kind (length c.piece.octets)
fitting_by (Err e) = None

-- a part of this name, if parts of one name are wanted, or of any
abbrev pub why_name : (wanted : Option Name) → Name → Why
why_name None name = Taken
why_name (Some wanted) name = if same_name name wanted then Taken else OtherName name

-- a packet that isn't read as a message of the direction
abbrev pub why_unsaid : PusFault → Why
why_unsaid WrongType = OtherDirection
why_unsaid PusVersion = NoPart
why_unsaid ShortHeader = NoPart
why_unsaid TooLong = NoPart
why_unsaid Memory = NoPart

-- a body that isn't read as a part, and would be by this part size
abbrev pub why_unread : PartFault → (fitting : Option ℕ) → Why
why_unread Zero fitting = NoNumber
why_unread ShortPart fitting = Unread fitting
why_unread KindNumber fitting = Unread fitting
why_unread PartLength fitting = Unread fitting
why_unread AbortBody fitting = Unread fitting

-- what carries no part, for this reason
abbrev pub why_skip : Skip → (fitting : Option ℕ) → Why
why_skip (skip.NoPacket e) fitting = NoPart
why_skip skip.Idle fitting = NoPart
why_skip (skip.OtherApid apid) fitting = OtherApid apid
why_skip (skip.NoMessage e) fitting = why_unsaid e
why_skip (skip.OtherType service subtype) fitting = NoPart
why_skip (skip.NoPart e) fitting = why_unread e fitting
why_skip (skip.Stray octets) fitting = Stray octets

-- what carries this, and would carry that if the part size weren't known
abbrev pub why_carried : (wanted : Option Name) → (this that : Result Named Skip) → Why
why_carried wanted (Ok c) that = why_name wanted (name_of c)
why_carried wanted (Err e) that = why_skip e (fitting_by that)

-- octets that are a piece of this kind
abbrev pub why_of : Wanted → PieceKind → List ℕ → Why
why_of w piece.Whole b =
    why_carried w.name (part_carried w.reading b) (part_carried (sizeless w.reading) b)
why_of w piece.Damaged b = Damaged
why_of w piece.Stray b = Stray (length b)

-- why a piece is passed over if these are wanted, or that it isn't
abbrev pub why : Wanted → Piece → Why
why w p = why_of w p.kind p.octets
