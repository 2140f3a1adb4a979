-- What a line of a list says of octets, by layouts.
use Rattle.std.specs.Prelude.{ℕ, ◌+◌, ◌-◌, ◌*◌, nat_lt, if◌then◌else◌, List, [], ◌∷◌, ◌++◌, length, codes, Option, Some, None, Result, Ok, Err}
use Rattle.std.specs.Option.{option_map_or}
use Rattle.std.specs.Result.{result_ok}
use Rattle.hex.specs.Hex.{encode_lower}
use Rattle.lpt_packet.specs.declared.direction.Direction.{Direction}
use Rattle.lpt_packet.specs.declared.direction.Direction.TheVariants.{Up, Down}
use Rattle.lpt_packet.specs.declared.fault.PacketFault.{PacketFault}
use Rattle.lpt_packet.specs.declared.packet.PacketKind.{PacketKind}
use Rattle.lpt_packet.specs.declared.packet.PacketKind.TheVariants.{Tm, Tc}
use Rattle.lpt_packet.specs.Numbers.{word_at}
use Rattle.lpt_packet.specs.Packets.{Fields, Sight, IdlePacket, APacket, kind_of}
use Rattle.lpt_pus.specs.declared.fault.PusFault.{PusFault}
use Rattle.lpt_pus.specs.FaultNames as of_header
use Rattle.lpt_part.specs.declared.kind.Kind.{Kind}
use Rattle.lpt_part.specs.Parts.{Piece}
use Rattle.lpt_events.specs.Arrivals.{carried_kind}
use Rattle.lpt_script_text.specs.Areas.{areas_in}
use Rattle.lpt_layout.specs.declared.width.Width.{Width}
use Rattle.lpt_layout.specs.declared.width.Width.TheVariants.{Absent, Octet, Word, Long}
use Rattle.lpt_layout.specs.declared.layout.Layout.{Layout}
use Rattle.lpt_layout.specs.Messages.{Said, message_verdict}
use Rattle.lpt_layout.specs.Packets.{verdict_as}
use Rattle.lpt_layout.specs.Parts.{a_size, octets_at, part_verdict_as}
use Rattle.lpt_carried.specs.declared.code.TimeCode.{TimeCode}
use Rattle.lpt_carried.specs.Times.{time_text}
use Rattle.lpt_carried.specs.declared.layouts.Layouts.{Layouts}
use Rattle.lpt_carried.specs.declared.layouts.Tailored.{Tailored}
use Rattle.lpt_carried.specs.Layouts.{tailored_in}
use Rattle.lpt_list.specs.Items.{Item, Number, Word as AWord, areas_said, fault_items, idle_items, part_items, primary_items, refused_items, telemetry_items, unread_items}

-- the direction in which packets of a type go
abbrev pub direction_of : PacketKind → Direction
direction_of Tc = Up
direction_of Tm = Down

-- what octets of a packet type are laid out by: the type is a bit of the primary header
abbrev pub layout_in : Layouts → List ℕ → Tailored
layout_in l b = tailored_in (direction_of (kind_of (word_at b 0))) l

-- ---- the secondary header

-- flags or status, and the message type
abbrev pub head_items : PacketKind → Said → List Item
head_items Tc s =
    Number (codes "flags") (codes "acknowledgement_flags") s.flags
    ∷ Number (codes "service") (codes "service_type") s.service
    ∷ Number (codes "subtype") (codes "message_subtype") s.subtype ∷ []
head_items Tm s =
    Number (codes "status") (codes "spacecraft_time_reference_status") s.flags
    ∷ Number (codes "service") (codes "service_type") s.service
    ∷ Number (codes "subtype") (codes "message_subtype") s.subtype ∷ []

-- a number, if the layout has one
abbrev pub width_items : Width → (word name : List ℕ) → ℕ → List Item
width_items Absent word name n = []
width_items Octet word name n = Number word name n ∷ []
width_items Word word name n = Number word name n ∷ []
width_items Long word name n = Number word name n ∷ []

-- the source or the destination
abbrev pub user_items : Width → PacketKind → ℕ → List Item
user_items w Tc n = width_items w (codes "source") (codes "source_id") n
user_items w Tm n = width_items w (codes "destination") (codes "destination_id") n

-- octets in hexadecimal digits, if there are any
abbrev pub octets_items : List ℕ → List ℕ → List Item
octets_items word [] = []
octets_items word (b ∷ bs) = AWord word word (encode_lower (b ∷ bs)) ∷ []

-- the number that 1 to 4 octets say
abbrev pub short_number : List ℕ → Option ℕ
short_number (a ∷ []) = Some a
short_number (a ∷ b ∷ []) = Some (256 * a + b)
short_number (a ∷ b ∷ c ∷ []) = Some (65536 * a + (256 * b + c))
short_number (a ∷ b ∷ c ∷ d ∷ []) = Some (16777216 * a + (65536 * b + (256 * c + d)))
short_number _ = None

-- a date and time of day, if there is one
abbrev pub date_items : Option (List ℕ) → List Item
date_items None = []
date_items (Some text) = AWord (codes "date") (codes "date") text ∷ []

-- the octets of a time without a code, or the number that they say
abbrev pub plain_items : Option ℕ → List ℕ → List Item
plain_items None b = octets_items (codes "time") b
plain_items (Some n) b = Number (codes "time") (codes "time") n ∷ []

-- a time: its octets, with the date that they say by its code; without a code a number of 1 to 4
-- octets
abbrev pub time_items : Option TimeCode → List ℕ → List Item
time_items None b = plain_items (short_number b) b
time_items (Some c) b = octets_items (codes "time") b ++ date_items (time_text c b)

-- its counter, and its source or destination
abbrev pub number_items : Layout → PacketKind → Said → List Item
number_items l kind s =
    width_items l.counter (codes "counter") (codes "message_type_counter") s.counter
    ++ user_items l.user kind s.user

-- its time and its spare octets
abbrev pub octet_items : Option TimeCode → Said → List Item
octet_items code s = time_items code s.time ++ octets_items (codes "spare") s.spare

-- the secondary header of a message
abbrev pub message_items : Tailored → PacketKind → Said → List Item
message_items t kind s =
    head_items kind s ++ (number_items t.packets kind s ++ octet_items t.time s)

-- ---- what it carries

-- the part size by which a body is read: the one that is given, or as many octets as it has
abbrev pub size_or : Option ℕ → Option ℕ → Option ℕ
size_or None own = own
size_or (Some p) own = Some p

abbrev pub own_size : Tailored → List ℕ → Option ℕ
own_size t b =
    if nat_lt (length b) (octets_at t.parts) then None else a_size (length b - octets_at t.parts)

abbrev pub size_for : Tailored → List ℕ → Option ℕ
size_for t b = size_or t.part_size (own_size t b)

-- a part of this size, if there is one
abbrev pub part_of_size : Tailored → Kind → List ℕ → Option ℕ → Option Piece
part_of_size t kind b None = None
part_of_size t kind b (Some p) = result_ok (part_verdict_as t.parts kind b p)

-- the part of this kind that a body is
abbrev pub part_at : Tailored → Kind → List ℕ → Option Piece
part_at t kind b = part_of_size t kind b (size_for t b)

-- a body that should be a part of this kind
abbrev pub part_as : Tailored → List ℕ → Kind → List Item
part_as t b kind =
    option_map_or part_items (part_at t kind b) (unread_items (length b - octets_at t.parts))

-- a request that names areas, or a report
abbrev pub other_as : PacketKind → Said → List Item
other_as Tc s = areas_said (areas_in Up s.service s.subtype s.body)
other_as Tm s = telemetry_items s.service s.subtype s.body

-- what a message carries
abbrev pub carried_as : Tailored → PacketKind → Said → List Item
carried_as t kind s =
    option_map_or (part_as t s.body) (carried_kind (direction_of kind) s.service s.subtype)
    (other_as kind s)

-- ---- octets

-- a message: its secondary header, and what it carries
abbrev pub message_as : Tailored → PacketKind → Said → List Item
message_as t kind s = message_items t kind s ++ carried_as t kind s

-- what is behind the primary header, if it is read; or the first test that it fails
abbrev pub field_as : Tailored → PacketKind → Result Said PusFault → List Item
field_as t kind (Ok s) = message_as t kind s
field_as t kind (Err e) = fault_items (of_header.code_of e) (of_header.name_of e)

-- a packet: its primary header, and then that
abbrev pub packet_as : Tailored → Fields → List Item
packet_as t f = primary_items f ++ field_as t f.kind (message_verdict t.packets f.kind f)

-- octets of this verdict
abbrev pub sight_as : Tailored → List ℕ → Result Sight PacketFault → List Item
sight_as t b (Ok IdlePacket) = idle_items
sight_as t b (Ok (APacket f)) = packet_as t f
sight_as t b (Err e) = refused_items b e

-- octets, by the layout of their packet type
abbrev pub by_layout : Tailored → List ℕ → List Item
by_layout t b = sight_as t b (verdict_as t.packets.has_checksum b)

abbrev pub said_as : Layouts → List ℕ → List Item
said_as l b = by_layout (layout_in l b) b
