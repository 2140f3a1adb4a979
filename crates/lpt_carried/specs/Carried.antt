-- What a packet carries: a part with the name of its transaction, or why it carries none.
use Rattle.std.specs.Prelude.{◌≡◌, ℕ, ◌-◌, ◌==◌, ◌&&◌, Bool, true, false, if◌then◌else◌, List, length, Option, Some, None, Result, Ok, Err}
use Rattle.lpt_events.specs.Arrivals.{carried_kind}
use Rattle.lpt_layout.specs.Messages.{Said, message_verdict}
use Rattle.lpt_layout.specs.Packets.{verdict_as}
use Rattle.lpt_layout.specs.Parts.{octets_at, part_verdict_as, piece}
use Rattle.lpt_packet.specs.declared.direction.Direction.{Direction}
use Rattle.lpt_packet.specs.declared.direction.Direction.TheVariants.{Up, Down}
use Rattle.lpt_packet.specs.declared.fault.PacketFault.{PacketFault}
use Rattle.lpt_packet.specs.declared.packet.PacketKind.{PacketKind}
use Rattle.lpt_packet.specs.declared.packet.PacketKind.TheVariants.{Tm, Tc}
use Rattle.lpt_packet.specs.Packets.{Sight, IdlePacket, APacket}
use Rattle.lpt_part.specs.declared.fault.PartFault.{PartFault}
use Rattle.lpt_part.specs.declared.kind.Kind.{Kind}
use Rattle.lpt_part.specs.Parts.{Piece}
use Rattle.lpt_pus.specs.declared.fault.PusFault.{PusFault}
use Rattle.lpt_stream.specs.declared.cut.Cut.{Cut}
use Rattle.lpt_stream.specs.declared.cut.Cut.TheVariants.{Sealed, Framed}
use Rattle.lpt_stream.specs.declared.piece_kind.PieceKind.{PieceKind}
use Rattle.lpt_stream.specs.declared.piece_kind.PieceKind.TheVariants as piece_kind
use Rattle.lpt_carried.specs.declared.carrying.CarriedPart.{CarriedPart}
use Rattle.lpt_carried.specs.declared.name.Name.{Name}
use Rattle.lpt_carried.specs.declared.reading.Reading.{Reading}
use Rattle.lpt_carried.specs.declared.skip.Skip.{Skip}
use Rattle.lpt_carried.specs.declared.skip.Skip.TheVariants.{Idle, NoPacket, OtherApid, NoMessage, OtherType, NoPart, Stray}
use Rattle.lpt_carried.specs.Sizes.{size_for}

-- a part, and where it comes from or goes to
pub record Named : Type 0 where
  pub user : ℕ
  pub piece : Piece

-- a part that was read
abbrev pub part_named : CarriedPart → Named
part_named c = record { user = c.user; piece = piece c.part }

-- the name of a part's transaction
abbrev pub name_of : Named → Name
name_of c = record { user = c.user; id = c.piece.id }

-- whether two names are the same
abbrev pub same_name : Name → Name → Bool
same_name a b = (a.user == b.user) && (a.id == b.id)

-- what goes up is a telecommand, and what comes down telemetry
abbrev pub kind_to : Direction → PacketKind
kind_to Up = Tc
kind_to Down = Tm

-- a part that was read, with its name
abbrev pub of_part : (user : ℕ) → Result Piece PartFault → Result Named Skip
of_part user (Ok q) = Ok (record { user = user; piece = q })
of_part user (Err e) = Err (NoPart e)

-- the part that a message of this type carries, if it is of a type that carries one
abbrev pub of_kind : Reading → Said → Option Kind → Result Named Skip
of_kind r s None = Err (OtherType s.service s.subtype)
of_kind r s (Some kind) =
    of_part s.user (part_verdict_as r.parts kind s.body
    (size_for r.part_size (length s.body - octets_at r.parts)))

-- the part that a message carries
abbrev pub of_message : Reading → Result Said PusFault → Result Named Skip
of_message r (Ok s) = of_kind r s (carried_kind r.direction s.service s.subtype)
of_message r (Err e) = Err (NoMessage e)

-- the part that octets carry which are seen as this
abbrev pub of_sight : Reading → Result Sight PacketFault → Result Named Skip
of_sight r (Err e) = Err (NoPacket e)
of_sight r (Ok IdlePacket) = Err Idle
of_sight r (Ok (APacket f)) =
    if f.apid == r.apid then of_message r (message_verdict r.layout (kind_to r.direction) f)
    else Err (OtherApid f.apid)

-- the part that octets carry: of a packet of the layout, of the APID, the direction and a type that
-- carries parts; or the first test that they fail, in this order
unfoldable pub part_carried : Reading → List ℕ → Result Named Skip
part_carried r b = of_sight r (verdict_as r.layout.has_checksum b)

-- how a stream of these packets is cut: by checksums, if they have one
abbrev pub cut_for : (has_checksum : Bool) → Cut
cut_for true = Sealed
cut_for false = Framed

abbrev pub cut : Reading → Cut
cut r = cut_for r.layout.has_checksum

-- the part that a piece of a stream carries
abbrev pub carried_in : Reading → PieceKind → List ℕ → Result Named Skip
carried_in r piece_kind.Whole b = part_carried r b
carried_in r piece_kind.Damaged b = part_carried r b
carried_in r piece_kind.Stray b = Err (Stray (length b))

-- the part of this name among what a packet carries
abbrev pub part_of : Name → Result Named Skip → Option Piece
part_of n (Ok c) = if same_name (name_of c) n then Some c.piece else None
part_of n (Err e) = None

-- what a reader answered is this
abbrev pub Gives : Result CarriedPart Skip → Result Named Skip → Type 0
Gives (Ok c) v = v ≡ Ok (part_named c)
Gives (Err e) v = v ≡ Err e
