-- What decoding prints of octets.
use Rattle.std.specs.Prelude.{◌≡◌, ℕ, Bool, true, false, ◌==◌, ◌&&◌, if◌then◌else◌, List, [], ◌∷◌, ◌++◌, length, codes, Option, Some, None, Result, Ok, Err}
use Rattle.std.specs.Option.{option_map_or}
use Rattle.std.specs.Fmt.{decimal}
use Rattle.lpt_packet.specs.declared.direction.Direction.TheVariants.{Up, Down}
use Rattle.lpt_packet.specs.declared.fault.PacketFault.{PacketFault}
use Rattle.lpt_packet.specs.declared.packet.PacketKind.{PacketKind}
use Rattle.lpt_packet.specs.declared.packet.PacketKind.TheVariants.{Tm, Tc}
use Rattle.lpt_packet.specs.FaultNames as of_packet
use Rattle.lpt_packet.specs.Numbers.{be}
use Rattle.lpt_packet.specs.Packets.{Fields, Sight, IdlePacket, APacket, verdict}
use Rattle.lpt_pus.specs.declared.fault.PusFault.{PusFault}
use Rattle.lpt_pus.specs.FaultNames as of_header
use Rattle.lpt_pus.specs.Commands.{Command, tc_verdict}
use Rattle.lpt_pus.specs.Telemetry.{Telemetry, tm_verdict}
use Rattle.lpt_verify.specs.declared.report.Report.{Report}
use Rattle.lpt_verify.specs.Reading.{report_in}
use Rattle.lpt_part.specs.declared.kind.Kind.{Kind}
use Rattle.lpt_part.specs.declared.reason.Reason.{Reason}
use Rattle.lpt_part.specs.Aborts.{abort_in, reason_code}
use Rattle.lpt_part.specs.Parts.{Piece, part_in}
use Rattle.lpt_events.specs.Arrivals.{carried_kind}
use Rattle.lpt_script_text.specs.Printing.{line_of, octets_text}
use Rattle.lpt_part.specs.Kinds.{kind_word}

-- what is printed, and whether the octets are faulty
pub record Decoding : Type 0 where
  pub text : List ℕ
  pub faulty : Bool

-- ---- the lines

-- the first test that the octets fail
abbrev pub fault_text : ℕ → List ℕ → List ℕ
fault_text code name = line_of (codes "fault" ∷ decimal code ∷ name ∷ [])

-- what a telecommand's headers say
abbrev pub tc_text : Command → List ℕ
tc_text c =
    line_of (codes "tc" ∷ codes "apid" ∷ decimal c.apid ∷ codes "count" ∷ decimal c.count
    ∷ codes "flags" ∷ decimal c.flags ∷ codes "service" ∷ decimal c.service
    ∷ codes "subtype" ∷ decimal c.subtype ∷ codes "source" ∷ decimal c.source ∷ [])

-- what a telemetry packet's headers say
abbrev pub tm_text : Telemetry → List ℕ
tm_text t =
    line_of (codes "tm" ∷ codes "apid" ∷ decimal t.apid ∷ codes "count" ∷ decimal t.count
    ∷ codes "status" ∷ decimal t.status ∷ codes "service" ∷ decimal t.service
    ∷ codes "subtype" ∷ decimal t.subtype ∷ codes "counter" ∷ decimal t.counter
    ∷ codes "destination" ∷ decimal t.destination ∷ codes "time" ∷ decimal t.time ∷ [])

-- the octets of a message's body
abbrev pub body_text : List ℕ → List ℕ
body_text body = line_of (codes "body" ∷ octets_text body ∷ [])

-- a part of a large message
abbrev pub part_text : Piece → List ℕ
part_text q =
    line_of (codes "part" ∷ kind_word q.kind ∷ codes "id" ∷ decimal q.id
    ∷ codes "number" ∷ decimal q.number ∷ codes "octets" ∷ decimal (length q.octets) ∷ [])

-- the report that the reception of a large message was aborted
abbrev pub abort_text : ℕ × Reason → List ℕ
abort_text a =
    line_of (codes "abort" ∷ codes "id" ∷ decimal a.0
    ∷ codes "reason" ∷ decimal (reason_code a.1) ∷ [])

-- a failure code, if there is one
abbrev pub code_words : Option ℕ → List (List ℕ)
code_words None = []
code_words (Some code) = codes "code" ∷ decimal code ∷ []

-- a verification report: the request ID in hexadecimal digits, and of a failure its code
abbrev pub report_text : Report → List ℕ
report_text r =
    line_of (codes "report" ∷ codes "request" ∷ octets_text (be r.request.value 4)
    ∷ code_words r.code)

-- ---- the third line

-- a body that should be a part of this kind; nothing if it isn't read
abbrev pub part_line : ℕ → List ℕ → Kind → List ℕ
part_line p body kind = option_map_or part_text (part_in p kind body) []

-- a body that should be an abortion report's; nothing if it isn't read
abbrev pub abort_line : List ℕ → List ℕ
abort_line body = option_map_or abort_text (abort_in body) []

-- a body that should be a verification report's; nothing if it isn't read
abbrev pub report_line : ℕ → List ℕ → List ℕ
report_line subtype body = option_map_or report_text (report_in subtype body) []

-- what a telecommand carries, if that is a part
abbrev pub tc_carried : ℕ → Command → List ℕ
tc_carried p c = option_map_or (part_line p c.body) (carried_kind Up c.service c.subtype) []

-- what telemetry carries that is no part, if that is a verification report or an abortion report
abbrev pub tm_reported : Telemetry → List ℕ
tm_reported t =
    if t.service == 1 then report_line t.subtype t.body
    else if (t.service == 13) && (t.subtype == 16) then abort_line t.body
    else []

-- what telemetry carries, if that is a part or a report
abbrev pub tm_carried : ℕ → Telemetry → List ℕ
tm_carried p t =
    option_map_or (part_line p t.body) (carried_kind Down t.service t.subtype) (tm_reported t)

-- ---- the whole text

-- octets that are read
abbrev pub readable : List ℕ → Decoding
readable text = record { text = text; faulty = false }

-- octets that fail a test
abbrev pub failing : ℕ → List ℕ → Decoding
failing code name = record { text = fault_text code name; faulty = true }

-- a packet that is read as a telecommand, or the first test of the header that it fails
abbrev pub tc_decoding : ℕ → Result Command PusFault → Decoding
tc_decoding p (Ok c) = readable (tc_text c ++ body_text c.body ++ tc_carried p c)
tc_decoding p (Err e) = failing (of_header.code_of e) (of_header.name_of e)

-- a packet that is read as telemetry, or the first test of the header that it fails
abbrev pub tm_decoding : ℕ → Result Telemetry PusFault → Decoding
tm_decoding p (Ok t) = readable (tm_text t ++ body_text t.body ++ tm_carried p t)
tm_decoding p (Err e) = failing (of_header.code_of e) (of_header.name_of e)

-- a packet of this type
abbrev pub packet_decoding : ℕ → PacketKind → Fields → Decoding
packet_decoding p Tc f = tc_decoding p (tc_verdict f)
packet_decoding p Tm f = tm_decoding p (tm_verdict f)

-- octets of this verdict
abbrev pub verdict_decoding : ℕ → Result Sight PacketFault → Decoding
verdict_decoding p (Ok IdlePacket) = readable (line_of (codes "idle" ∷ []))
verdict_decoding p (Ok (APacket f)) = packet_decoding p f.kind f
verdict_decoding p (Err e) = failing (of_packet.code_of e) (of_packet.name_of e)

-- octets, for parts of p octets
abbrev pub decoding : (p : ℕ) → List ℕ → Decoding
decoding p b = verdict_decoding p (verdict b)

-- a text and a judgement are what is decoded
abbrev pub Says : List ℕ → Bool → Decoding → Type 0
Says text faulty d = (text ≡ d.text) × (faulty ≡ d.faulty)
