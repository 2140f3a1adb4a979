-- The check reports of the memory service, read.
use Rattle.std.specs.Prelude.{ℕ, ◌==◌, ◌&&◌, nat_le, Bool, if◌then◌else◌, List, [], Option, Some, None, Result, Ok, Err}
use Rattle.std.specs.List.{flat_map}
use Rattle.lpt_packet.specs.declared.fault.PacketFault.{PacketFault}
use Rattle.lpt_packet.specs.declared.packet.PacketKind.TheVariants.{Tm}
use Rattle.lpt_packet.specs.Packets.{Sight, IdlePacket, APacket}
use Rattle.lpt_pus.specs.declared.fault.PusFault.{PusFault}
use Rattle.lpt_layout.specs.declared.layout.Layout.{Layout}
use Rattle.lpt_layout.specs.Messages.{Said, message_verdict}
use Rattle.lpt_layout.specs.Packets.{verdict_as}
use Rattle.lpt_memory.specs.Fields.{◌>>=◌, front_word}
use Rattle.lpt_memory.specs.Requests.{Request, front_range, request_in}
use Rattle.lpt_stream.specs.declared.piece_kind.PieceKind.{PieceKind}
use Rattle.lpt_stream.specs.declared.piece_kind.PieceKind.TheVariants.{Whole, Damaged, Stray}
use Rattle.lpt_stream.specs.Pieces.{Piece, packets_of}
use Rattle.lpt_compare.specs.declared.checked.Checked.{Checked}

-- ---- a body

-- an area: start address 32 bits, length 16, which isn't 0, the checksum of the octets 16
unfoldable pub one_area : List ℕ → Option (Checked × List ℕ)
one_area octets = do
  range ← front_range octets
  checksum ← front_word range.1
  Some (
    record {
      address = range.0.address;
      len = range.0.len;
      checksum = checksum.0;
    },
    checksum.1,
  )

-- What a packet is to who looks for check reports of an APID and a memory: one that says this of
-- its areas, if of the memory's; one that isn't read; a part of a message, which may be one; a
-- check report or a part of this other APID; or none of these.
pub data Saying : Type 0 where
  Areas : List Checked → Saying
  Unread : Saying
  APart : Saying
  Foreign : (apid : ℕ) → Saying
  Other : Saying

-- the areas, if they are of this memory
abbrev pub areas_of : (memory : ℕ) → Option (Request Checked) → Saying
areas_of m None = Unread
areas_of m (Some r) = Areas (if r.memory == m then r.areas else [])

-- what the body of a check report says of a memory
unfoldable pub in_body : (memory : ℕ) → List ℕ → Saying
in_body m body = areas_of m (request_in one_area body)

-- ---- a packet

-- whether telemetry is a check report
abbrev pub is_report : Said → Bool
is_report s = (s.service == 6) && (s.subtype == 10)

-- whether it carries a part of a message
abbrev pub is_part : Said → Bool
is_part s = (s.service == 13) && (nat_le 1 s.subtype && nat_le s.subtype 3)

-- telemetry, to who looks for this APID
abbrev pub said_of : (apid memory : ℕ) → Said → Saying
said_of apid m s =
    if is_report s then (if s.apid == apid then in_body m s.body else Foreign s.apid)
    else if is_part s then (if s.apid == apid then APart else Foreign s.apid)
    else Other

-- a packet that is read as telemetry, or isn't
abbrev pub said_by : (apid memory : ℕ) → Result Said PusFault → Saying
said_by apid m (Ok s) = said_of apid m s
said_by apid m (Err e) = Other

-- octets of this verdict
abbrev pub said_as : Layout → (apid memory : ℕ) → Result Sight PacketFault → Saying
said_as l apid m (Ok IdlePacket) = Other
said_as l apid m (Ok (APacket f)) = said_by apid m (message_verdict l Tm f)
said_as l apid m (Err e) = Other

-- what octets are that are a packet, by this layout
unfoldable pub said_in : Layout → (apid memory : ℕ) → List ℕ → Saying
said_in l apid m b = said_as l apid m (verdict_as l.has_checksum b)

-- the areas that are said
abbrev pub areas_in : Saying → List Checked
areas_in (Areas areas) = areas
areas_in Unread = []
areas_in APart = []
areas_in (Foreign apid) = []
areas_in Other = []

-- what octets say
abbrev pub checks_in : Layout → (apid memory : ℕ) → List ℕ → List Checked
checks_in l apid m b = areas_in (said_in l apid m b)

-- ---- a stream

-- what the octets of a piece are
abbrev pub piece_said : Layout → (apid memory : ℕ) → PieceKind → List ℕ → Saying
piece_said l apid m Whole b = said_in l apid m b
piece_said l apid m Damaged b = Other
piece_said l apid m Stray b = Other

-- what a stream of these pieces says, in its order
abbrev pub checks_of : Layout → (apid memory : ℕ) → List Piece → List Checked
checks_of l apid m pieces = flat_map (checks_in l apid m) (packets_of pieces)
