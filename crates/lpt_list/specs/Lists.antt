-- The list of a stream.
use Rattle.std.specs.Prelude.{◌≡◌, ℕ, ◌+◌, ◌&&◌, not, Bool, true, false, if◌then◌else◌, List, [], ◌∷◌, ◌++◌, length, codes, Option, Some, None, Result, Ok, Err}
use Rattle.std.specs.Fmt.{decimal}
use Rattle.std.specs.Io.KnownBytes.{Appends}
use Rattle.lpt_stream.specs.declared.piece_kind.PieceKind.{PieceKind}
use Rattle.lpt_stream.specs.declared.piece_kind.PieceKind.TheVariants.{Whole as APacket, Damaged, Stray}
use Rattle.lpt_text.specs.Streams.{AppendsPart}
use Rattle.lpt_stream.specs.Takes.{LeavesBy, ReadsBy, TakenAll}
use Rattle.lpt_stream.specs.Pieces.{Piece, ends_in_checksum, keeps_step, up_to_limit}
use Rattle.lpt_packet.specs.declared.fault.PacketFault.{PacketFault}
use Rattle.lpt_packet.specs.declared.fault.PacketFault.TheVariants.{Short, Version, Length, Segmented, NoSecondary, Checksum}
use Rattle.lpt_packet.specs.Packets.{Sight}
use Rattle.lpt_layout.specs.Packets.{verdict_as}
use Rattle.lpt_carried.specs.declared.layouts.Layouts.{Layouts}
use Rattle.lpt_stream.specs.declared.cut.Cut.{Cut}
use Rattle.lpt_stream.specs.declared.cut.Cut.TheVariants.{Sealed, Framed}
use Rattle.lpt_list.specs.declared.form.Form.{Form}
use Rattle.lpt_list.specs.declared.form.Form.TheVariants.{Text, Json}
use Rattle.lpt_list.specs.declared.list_end.ListEnd.{ListEnd}
use Rattle.lpt_list.specs.declared.list_end.ListEnd.TheVariants.{Whole, Stopped}
use Rattle.lpt_list.specs.declared.list_end.Tally.{Tally}
use Rattle.lpt_list.specs.Said.{layout_in, said_as}
use Rattle.lpt_list.specs.Items.{Item, Alone, Number, items_text}

-- ---- a line

-- the place, in front of the items
abbrev pub opening : Form → ℕ → List ℕ
opening Text place = decimal place
opening Json place = 123 ∷ 34 ∷ (codes "place" ++ (34 ∷ 58 ∷ decimal place))

-- the line's end
abbrev pub closing : Form → List ℕ
closing Text = 10 ∷ []
closing Json = 125 ∷ 10 ∷ []

-- a line of these items
abbrev pub line_of : Form → (place : ℕ) → List Item → List ℕ
line_of form place items = opening form place ++ (items_text form items ++ closing form)

-- how many octets there are
abbrev pub length_items : ℕ → List Item
length_items n = Number (codes "length") (codes "length") n ∷ []

-- the line of a packet, or of octets as long as their header says
abbrev pub piece_line : Form → Layouts → (place : ℕ) → List ℕ → List ℕ
piece_line form l place b =
    line_of form place (length_items (length b) ++ said_as l b)

-- what octets are alone, in words
abbrev pub decoding_as : Layouts → List ℕ → List ℕ
decoding_as l b = (codes "packet" ++ items_text Text (said_as l b)) ++ (10 ∷ [])

-- the line that no packet is at a place
abbrev pub none_line : Form → (place : ℕ) → List ℕ
none_line form place = line_of form place (Alone (codes "packet_type") (codes "none") ∷ [])

-- ---- the list

-- what is listed of a piece: octets that are nothing where they begin
abbrev pub line_for : Form → Layouts → (place : ℕ) → (in_step : Bool) → PieceKind → List ℕ → List ℕ
line_for form l place s APacket b = piece_line form l place b
line_for form l place s Damaged b = piece_line form l place b
line_for form l place s Stray b = if s then none_line form place else []

-- what is listed of pieces; a place beyond 2^64 - 1 is told as that
abbrev pub listing : Form → Layouts → (place : ℕ) → (in_step : Bool) → List Piece → List ℕ
listing form l place s [] = []
listing form l place s (x ∷ xs) =
    line_for form l (up_to_limit place) s x.kind x.octets
    ++ listing form l (place + length x.octets) (keeps_step x.kind) xs

-- ---- what is no packet

-- of nothing
abbrev pub no_tally : Tally
no_tally = record { damaged = 0; stray = 0 }

-- with a piece more: one that is as long as its header says, or an octet
abbrev pub tally_with : PieceKind → Tally → Tally
tally_with APacket t = t
tally_with Damaged t = record t { damaged = up_to_limit (t.damaged + 1) }
tally_with Stray t = record t { stray = up_to_limit (t.stray + 1) }

-- what octets are that fail a test of the header's flags: a packet, unless packets have a checksum
-- and theirs is wrong
abbrev pub flagged_kind : (has_checksum : Bool) → List ℕ → PieceKind
flagged_kind c b = if c && not (ends_in_checksum b) then Damaged else APacket

-- what octets of this verdict are that are as many as a header says: a packet, unless a checksum
-- is wrong
abbrev pub verdict_kind : (has_checksum : Bool) → List ℕ → Result Sight PacketFault → PieceKind
verdict_kind c b (Ok s) = APacket
verdict_kind c b (Err Short) = APacket
verdict_kind c b (Err Version) = APacket
verdict_kind c b (Err Length) = APacket
verdict_kind c b (Err Segmented) = flagged_kind c b
verdict_kind c b (Err NoSecondary) = flagged_kind c b
verdict_kind c b (Err Checksum) = Damaged

-- what a piece of this kind is, if its octets are of this verdict
abbrev pub kind_judged : (has_checksum : Bool) → List ℕ → PieceKind → Result Sight PacketFault
    → PieceKind
kind_judged c b APacket v = verdict_kind c b v
kind_judged c b Damaged v = Damaged
kind_judged c b Stray v = Stray

-- what octets are by a layout whose packets have a checksum, or none
abbrev pub kind_by : (has_checksum : Bool) → PieceKind → List ℕ → PieceKind
kind_by c k b = kind_judged c b k (verdict_as c b)

-- what a piece is by the layout of its packet type
abbrev pub kind_as : Layouts → PieceKind → List ℕ → PieceKind
kind_as l k b = kind_by (layout_in l b).packets.has_checksum k b

-- with pieces more
abbrev pub tally_behind : Layouts → Tally → List Piece → Tally
tally_behind l t [] = t
tally_behind l t (x ∷ xs) = tally_behind l (tally_with (kind_as l x.kind x.octets) t) xs

-- ---- a stream

-- how a stream of these layouts is cut: by checksums, if all packets have one
abbrev pub cut_of : (down up : Bool) → Cut
cut_of true true = Sealed
cut_of true false = Framed
cut_of false up = Framed

abbrev pub cut_for : Layouts → Cut
cut_for l = cut_of l.telemetry.packets.has_checksum l.telecommands.packets.has_checksum

-- the place of the first piece that is no packet, if a list ends there, with a piece more
abbrev pub stopped_with : (strict : Bool) → ℕ → PieceKind → Option ℕ → Option ℕ
stopped_with strict place kind (Some n) = Some n
stopped_with true place APacket None = None
stopped_with true place Damaged None = Some place
stopped_with true place Stray None = Some place
stopped_with false place kind None = None

-- with pieces more
abbrev pub stopped_behind : Layouts → (strict : Bool) → ℕ → Option ℕ → List Piece → Option ℕ
stopped_behind l strict place at [] = at
stopped_behind l strict place at (x ∷ xs) =
    stopped_behind l strict (place + length x.octets)
    (stopped_with strict (up_to_limit place) (kind_as l x.kind x.octets) at) xs

-- how a list ends that ends there
abbrev pub end_of : Option ℕ → ListEnd
end_of None = Whole
end_of (Some place) = Stopped place

abbrev pub is_whole : ListEnd → Bool
is_whole Whole = true
is_whole (Stopped place) = false

-- how the list of pieces ends of a stream that begins at a place, and how much of them is no packet
pub record IsCounted (l : Layouts) (strict : Bool) (from : ℕ) (end : ListEnd) (tally : Tally)
    (pieces : List Piece) : Type 0 where
  pub ends : end ≡ end_of (stopped_behind l strict from None pieces)
  pub counted : tally ≡ tally_behind l no_tally pieces

-- what a list has read, counted and written: all of the stream, or, in a strict list, the
-- stream up to the first piece that is no packet
abbrev pub ListsTo : Form → Layouts → (from : ℕ) → (strict : Bool) → ListEnd → Tally
    → (before after old new : Option (List ℕ)) → Type 0
ListsTo form l from strict end tally before after old new =
    ReadsBy (cut_for l) before after (is_whole end) (λ pieces.
    IsCounted l strict from end tally pieces
    × Appends old new (listing form l from true pieces))

-- the stream was read up to a fault, and a front part of the list of what was read before is
-- written
abbrev pub ListLeaves : Form → Layouts → (from : ℕ) → (before after old new : Option (List ℕ))
    → Type 0
ListLeaves form l from before after old new =
    LeavesBy (cut_for l) before after (λ pieces.
    AppendsPart old new (listing form l from true pieces))

-- a read failed: the list of all pieces that what was read before shows is written
abbrev pub ListsAll : Form → Layouts → (from : ℕ) → (before after old new : Option (List ℕ))
    → Type 0
ListsAll form l from before after old new =
    TakenAll (cut_for l) before after (λ pieces.
    Appends old new (listing form l from true pieces))
