-- What a line of a list says of octets.
use Rattle.std.specs.Prelude.{ℕ, ◌/◌, ◌%◌, ◌==◌, ◌&&◌, if◌then◌else◌, List, [], ◌∷◌, ◌++◌, length, codes, Option, Some, None}
use Rattle.std.specs.Option.{option_map_or}
use Rattle.std.specs.Fmt.{decimal}
use Rattle.hex.specs.Hex.{encode_lower}
use Rattle.lpt_packet.specs.declared.direction.Direction.TheVariants.{Down}
use Rattle.lpt_packet.specs.declared.fault.PacketFault.{PacketFault}
use Rattle.lpt_packet.specs.declared.fault.PacketFault.TheVariants.{Short, Version, Length, Segmented, NoSecondary, Checksum}
use Rattle.lpt_packet.specs.declared.packet.PacketKind.{PacketKind}
use Rattle.lpt_packet.specs.declared.packet.PacketKind.TheVariants.{Tm, Tc}
use Rattle.lpt_packet.specs.FaultNames as of_packet
use Rattle.lpt_packet.specs.Numbers.{be, word_at}
use Rattle.lpt_packet.specs.Packets.{Fields, fields_of, kind_of}
use Rattle.lpt_verify.specs.declared.report.Report.{Report}
use Rattle.lpt_verify.specs.Reading.{report_in}
use Rattle.lpt_part.specs.declared.kind.Kind.{Kind}
use Rattle.lpt_part.specs.declared.reason.Reason.{Reason}
use Rattle.lpt_part.specs.Aborts.{abort_in, reason_code}
use Rattle.lpt_part.specs.Parts.{Piece}
use Rattle.lpt_script_text.specs.declared.areas.Areas.{Areas}
use Rattle.lpt_script_text.specs.Areas.{areas_in}
use Rattle.lpt_list.specs.declared.form.Form.{Form}
use Rattle.lpt_list.specs.declared.form.Form.TheVariants.{Text, Json}
use Rattle.lpt_part.specs.Kinds.{kind_word}
use Rattle.lpt_stream.specs.Pieces.{ends_in_checksum}

-- ---- an item

-- A number or a word, with the word that is in front of it and its name in JSON; or a word alone.
pub data Item : Type 0 where
  Number : (word name : List ℕ) (n : ℕ) → Item
  Word : (word name value : List ℕ) → Item
  Alone : (name value : List ℕ) → Item

-- a name in JSON, behind a comma
abbrev pub json_name : List ℕ → List ℕ
json_name name = 44 ∷ 34 ∷ (name ++ (34 ∷ 58 ∷ []))

-- a word in quotation marks
abbrev pub in_quotes : List ℕ → List ℕ
in_quotes value = 34 ∷ (value ++ (34 ∷ []))

-- an item behind others
abbrev pub item_text : Form → Item → List ℕ
item_text Text (Number word name n) = 32 ∷ (word ++ (32 ∷ decimal n))
item_text Text (Word word name value) = 32 ∷ (word ++ (32 ∷ value))
item_text Text (Alone name value) = 32 ∷ value
item_text Json (Number word name n) = json_name name ++ decimal n
item_text Json (Word word name value) = json_name name ++ in_quotes value
item_text Json (Alone name value) = json_name name ++ in_quotes value

-- items one behind the other
abbrev pub items_text : Form → List Item → List ℕ
items_text form [] = []
items_text form (i ∷ []) = item_text form i
items_text form (i ∷ j ∷ rest) = item_text form i ++ items_text form (j ∷ rest)

-- ---- what packets say

-- a packet's type
abbrev pub type_text : PacketKind → List ℕ
type_text Tc = codes "tc"
type_text Tm = codes "tm"

-- the primary header
abbrev pub primary_items : Fields → List Item
primary_items f =
    Alone (codes "packet_type") (type_text f.kind)
    ∷ Number (codes "apid") (codes "application_process_id") f.apid
    ∷ Number (codes "count") (codes "packet_sequence_count") f.count ∷ []

-- a part of a large message, of so many octets
abbrev pub part_fields : Kind → (id number octets : ℕ) → List Item
part_fields kind id number octets =
    Word (codes "part") (codes "part") (kind_word kind)
    ∷ Number (codes "id") (codes "large_message_transaction_identifier") id
    ∷ Number (codes "number") (codes "part_sequence_number") number
    ∷ Number (codes "octets") (codes "part_octets") octets ∷ []

abbrev pub part_items : Piece → List Item
part_items q = part_fields q.kind q.id q.number (length q.octets)

-- what should be a part of so many octets, and isn't read as one of the part size
abbrev pub unread_items : (octets : ℕ) → List Item
unread_items octets =
    Word (codes "part") (codes "part") (codes "unread")
    ∷ Number (codes "octets") (codes "part_octets") octets ∷ []

-- the report that the reception of a large message was aborted
abbrev pub abort_items : ℕ × Reason → List Item
abort_items a =
    Number (codes "abort id") (codes "large_message_transaction_identifier") a.0
    ∷ Number (codes "reason") (codes "failure_reason") (reason_code a.1) ∷ []

-- a request, by the digits of its identifier
abbrev pub request_items : List ℕ → List Item
request_items digits = Word (codes "report request") (codes "request_id") digits ∷ []

-- a failure code, if there is one
abbrev pub code_items : Option ℕ → List Item
code_items None = []
code_items (Some code) = Number (codes "code") (codes "failure_code") code ∷ []

-- a verification report
abbrev pub report_items : Report → List Item
report_items r =
    request_items (encode_lower (be r.request.value 4)) ++ code_items r.code

-- the areas that a message of the memory service names, if it names any
abbrev pub areas_said : Option Areas → List Item
areas_said None = []
areas_said (Some a) =
    Number (codes "memory") (codes "memory_id") a.memory
    ∷ Number (codes "areas") (codes "areas") a.count
    ∷ Number (codes "address") (codes "start_address") a.address
    ∷ Number (codes "length") (codes "area_length") a.len ∷ []

-- the first test that octets fail
abbrev pub fault_items : ℕ → List ℕ → List Item
fault_items code name = Number (codes "fault") (codes "fault_code") code ∷ Alone (codes "fault") name ∷ []

-- ---- what they carry

-- a body that should be an abortion report's
abbrev pub abort_said : List ℕ → List Item
abort_said body = option_map_or abort_items (abort_in body) []

-- a body that should be a verification report's
abbrev pub report_said : ℕ → List ℕ → List Item
report_said subtype body = option_map_or report_items (report_in subtype body) []

-- what telemetry carries that is no part, if that is a report
abbrev pub telemetry_items : (service subtype : ℕ) → List ℕ → List Item
telemetry_items service subtype body =
    if service == 1 then report_said subtype body
    else if (service == 13) && (subtype == 16) then abort_said body
    else areas_said (areas_in Down service subtype body)

-- ---- octets

-- the sequence flags of a segment of a message in several packets
abbrev pub segment_text : ℕ → List ℕ
segment_text flags =
    if flags == 0 then codes "continuation" else if flags == 1 then codes "first"
    else if flags == 2 then codes "last" else codes "unsegmented"

abbrev pub flags_items : List ℕ → List Item
flags_items word = Word (codes "segment") (codes "sequence_flags") word ∷ []

-- the primary header in front of octets
abbrev pub header_items : List ℕ → List Item
header_items b =
    primary_items (fields_of (kind_of (word_at b 0)) (word_at b 0 % 2048) (word_at b 2 % 16384) [])

-- a segment: its primary header, and which it is
abbrev pub segment_items : List ℕ → List Item
segment_items b = header_items b ++ flags_items (segment_text (word_at b 2 / 16384))

-- a packet without a secondary header: its primary header, if its checksum is right
abbrev pub bare_items : List ℕ → List Item
bare_items b = if ends_in_checksum b then header_items b else []

-- what is said of octets that fail this test, in front of the test: what a segment says, or a
-- packet without a secondary header
abbrev pub refused_front : List ℕ → PacketFault → List Item
refused_front b Short = []
refused_front b Version = []
refused_front b Length = []
refused_front b Segmented = segment_items b
refused_front b NoSecondary = bare_items b
refused_front b Checksum = []

-- octets that fail this test first
abbrev pub refused_items : List ℕ → PacketFault → List Item
refused_items b e = refused_front b e ++ fault_items (of_packet.code_of e) (of_packet.name_of e)

-- an idle packet
abbrev pub idle_items : List Item
idle_items = Alone (codes "packet_type") (codes "idle") ∷ []
