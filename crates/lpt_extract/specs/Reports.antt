-- The dump reports of the memory service, read by a layout of telemetry.
use Rattle.std.specs.Result.{result_ok}
use Rattle.std.specs.Prelude.{ℕ, ◌==◌, ◌&&◌, if◌then◌else◌, List, length, Option, Some, None, is_some, option_and_then}
use Rattle.lpt_events.specs.Arrivals.{carried_kind}
use Rattle.lpt_packet.specs.declared.direction.Direction.TheVariants.{Down}
use Rattle.lpt_packet.specs.declared.packet.PacketKind.TheVariants.{Tm}
use Rattle.lpt_packet.specs.Packets.{Sight, IdlePacket, APacket}
use Rattle.lpt_layout.specs.declared.layout.Layout.{Layout}
use Rattle.lpt_layout.specs.Messages.{Said, message_verdict}
use Rattle.lpt_layout.specs.Packets.{verdict_as}
use Rattle.lpt_memory.specs.declared.reply_kind.ReplyKind.TheVariants.{Dump}
use Rattle.lpt_memory.specs.ReplyKinds.{subtype_of}
use Rattle.lpt_memory.specs.Requests.{LoadArea, Request, front_load_area, request_in}
use Rattle.lpt_extract.specs.declared.wanted.Wanted.{Wanted}

-- No dump report; a part of a message, which may be one; one of another APID, or a part of that;
-- one whose body, of so many octets, isn't read; a memory and its areas.
pub data Saying : Type 0 where
  Other : Saying
  APart : Saying
  Foreign : (apid : ℕ) → Saying
  Unread : (octets : ℕ) → Saying
  Areas : (report : Request LoadArea) → Saying

-- A dump report of this APID and this body; a part of a message, of this APID.
pub data DumpOrPart : Type 0 where
  ADump : (apid : ℕ) → (body : List ℕ) → DumpOrPart
  APartOf : (apid : ℕ) → DumpOrPart

-- which of these telemetry is, if it is one
abbrev pub dump_or_part : (apid service subtype : ℕ) → List ℕ → Option DumpOrPart
dump_or_part apid service subtype body =
    if (service == 6) && (subtype == subtype_of Dump) then Some (ADump apid body)
    else if is_some (carried_kind Down service subtype) then Some (APartOf apid) else None

-- which of them a message is
abbrev pub dump_of : Said → Option DumpOrPart
dump_of s = dump_or_part s.apid s.service s.subtype s.body

-- which of them octets are that are seen as this
abbrev pub dump_by : Layout → Sight → Option DumpOrPart
dump_by l IdlePacket = None
dump_by l (APacket f) = option_and_then dump_of (result_ok (message_verdict l Tm f))

-- and which octets are; those that fail a test are none
unfoldable pub dump_in : Layout → List ℕ → Option DumpOrPart
dump_in l b = option_and_then (dump_by l) (result_ok (verdict_as l.has_checksum b))

-- what was read of a body of so many octets
abbrev pub read_as : ℕ → Option (Request LoadArea) → Saying
read_as n (Some r) = Areas r
read_as n None = Unread n

-- what a body says; it is encoded as a load's
unfoldable pub body_report : List ℕ → Saying
body_report body = read_as (length body) (request_in front_load_area body)

-- what they say to whom wants dump reports of this APID
abbrev pub said_in : ℕ → Option DumpOrPart → Saying
said_in apid (Some (ADump a body)) = if a == apid then body_report body else Foreign a
said_in apid (Some (APartOf a)) = if a == apid then APart else Foreign a
said_in apid None = Other

-- what octets say
unfoldable pub report_in : Wanted → List ℕ → Saying
report_in w b = said_in w.apid (dump_in w.layout b)
