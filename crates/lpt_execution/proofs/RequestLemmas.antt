-- The number of a request is that of the first four octets of its message.
use Rattle.std.proofs.Common.{◌≡◌, ◌∙◌, ap, sym, refl, ℕ, ◌<◌, ◌^◌, List, [], ◌++◌, take, map, arith, Option, Some, None}
use Rattle.std.proofs.lemmas.List.{append-nil}
use Rattle.std.specs.Option.{option_map_or}
use Rattle.lpt_packet.specs.Numbers.{be}
use Rattle.lpt_packet.specs.declared.packet.PacketKind.{PacketKind}
use Rattle.lpt_packet.specs.declared.packet.PacketKind.TheVariants.{Tc}
use Rattle.lpt_packet.specs.Packets.{Fields, fields_of, spelling, APacket}
use Rattle.lpt_packet.proofs.SightLemmas.{seen_sight}
use Rattle.lpt_pus.specs.declared.failure_code.FailureCode.{FailureCode}
use Rattle.lpt_pus.specs.declared.tc_head.TcHead.{TcHead}
use Rattle.lpt_pus.specs.Codes.{number_of}
use Rattle.lpt_pus.specs.Commands.{Command, command, command_in, packet_of}
use Rattle.lpt_pus.specs.Numbers.{long_at}
use Rattle.lpt_pus.proofs.CommandLemmas.{command_in-found, tc_verdict-ok, is_tc-true}
use Rattle.lpt_memory.specs.Readings.{IsHeadIn}
use Rattle.lpt_verify.specs.Reports.{reports_before, reports_after}
use Rattle.lpt_execution.specs.declared.ending.Ending.{Ending}
use Rattle.lpt_execution.specs.declared.ending.Ending.TheVariants.{Refused, Carried}
use Rattle.lpt_execution.specs.declared.ending.Report.{Report}
use Rattle.lpt_execution.specs.Reporting.{data_report, message_reports, reports_of, verification}

-- the first four octets of packets of one kind, APID and sequence count are the same
take-spelling : (kind : PacketKind) (apid count : ℕ) (a b : List ℕ)
    → take 4 (spelling (fields_of kind apid count a))
    ≡ take 4 (spelling (fields_of kind apid count b))
unfolding spelling
take-spelling kind apid count a b = refl

-- the number of a packet's first four octets is that of these four
long_at-spelling : (f : Fields) → long_at (spelling f) 0 ≡ long_at (take 4 (spelling f)) 0
unfolding spelling
long_at-spelling f = refl

-- the number that four octets spell
long_at-be : (n : ℕ) → n < 2 ^ 32 → long_at (be n 4) 0 ≡ n
long_at-be n fits = omega arith

-- what the clause of a request's number says
abbrev pub Numbers : TcHead → ℕ → Type 0
Numbers h n = (body : List ℕ) → be n 4 ≡ take 4 (spelling (packet_of (command h body)))

-- the first four octets of a packet that is read as a telecommand are those of its head
take-read : (apid : ℕ) (m : List ℕ) (h : TcHead) (body : List ℕ)
    → command_in apid m ≡ Some (command h body)
    → (f : Fields) × (m ≡ spelling f)
    × (take 4 (spelling f) ≡ take 4 (spelling (packet_of (command h body))))
take-read apid m h body read =
    let inside = command_in-found apid m (command h body) read in
    let f : Fields = inside.packet in
    let passed = tc_verdict-ok f (command h body) inside.is_command in
    let kind : f.kind ≡ Tc = is_tc-true f.kind passed.0 in
    let count : f.count ≡ h.count = ap (λ (c : Command). c.count) passed.3 in
    let at : f.apid ≡ h.apid = ap (λ (c : Command). c.apid) passed.3 in
    let same : f ≡ fields_of Tc h.apid h.count f.octets =
    (λ i. fields_of (kind i) (at i) (count i) f.octets) in (
      f,
      (seen_sight m (APacket f) inside.is_packet).spelled,
      ap (λ (g : Fields). take 4 (spelling g)) same
          ∙ take-spelling Tc h.apid h.count f.octets (packet_of (command h body)).octets,
    )

-- the number of a request is that of its message
pub long_at-request : (apid : ℕ) (m : List ℕ) (h : TcHead) (n : ℕ) (body : List ℕ)
    → n < 2 ^ 32
    → command_in apid m ≡ Some (command h body)
    → Numbers h n
    → long_at m 0 ≡ n
long_at-request apid m h n body fits read numbers =
    let front = take-read apid m h body read in
    ap (λ (b : List ℕ). long_at b 0) front.1
    ∙ long_at-spelling front.0
    ∙ ap (λ (b : List ℕ). long_at b 0) (front.2 ∙ sym (numbers body))
    ∙ long_at-be n fits

-- the reports of a message are those of the request that it is
reports-request : (apid : ℕ) (m : List ℕ) (h : TcHead) (n : ℕ) (end : Ending)
    → n < 2 ^ 32
    → IsHeadIn (Some h) apid m
    → Numbers h n
    → reports_of n h.flags end ≡ message_reports apid m end
reports-request apid m h n end fits (body, read) numbers =
    sym (ap (λ (found : Option Command).
    option_map_or (λ c. reports_of (long_at m 0) c.flags end) found []) read
    ∙ ap (λ (k : ℕ). reports_of k h.flags end) (long_at-request apid m h n body fits read numbers))

-- the same, of a request that is refused
pub reports-refused : (apid : ℕ) (m : List ℕ) (h : TcHead) (n : ℕ) (end : Ending)
    → (code : FailureCode)
    → n < 2 ^ 32
    → IsHeadIn (Some h) apid m
    → Numbers h n
    → end ≡ Refused code
    → map verification (reports_before n h.flags (Some (number_of code))) ++ [] ++ []
    ≡ message_reports apid m end
reports-refused apid m h n end code fits read numbers is =
    append-nil (map verification (reports_before n h.flags (Some (number_of code))) ++ [])
    ∙ append-nil (map verification (reports_before n h.flags (Some (number_of code))))
    ∙ ap (reports_of n h.flags) (sym is)
    ∙ reports-request apid m h n end fits read numbers

-- the same, of a request that is carried out
pub reports-carried : (apid : ℕ) (m : List ℕ) (h : TcHead) (n : ℕ) (end : Ending)
    → (r : Option Report)
    → n < 2 ^ 32
    → IsHeadIn (Some h) apid m
    → Numbers h n
    → end ≡ Carried r
    → map verification (reports_before n h.flags None)
    ++ data_report r
    ++ map verification (reports_after n h.flags None)
    ≡ message_reports apid m end
reports-carried apid m h n end r fits read numbers is =
    ap (reports_of n h.flags) (sym is) ∙ reports-request apid m h n end fits read numbers
