-- Parts of large messages, as they are read and written.
use Rattle.std.specs.Prelude.{ℕ, ◌+◌, ◌==◌, nat_lt, nat_le, Bool, ◌&&◌, if◌then◌else◌, List, length, Option, Some, None, Result, Ok, Err}
use Rattle.lpt_packet.specs.declared.packet.PacketKind.{PacketKind}
use Rattle.lpt_packet.specs.declared.packet.PacketKind.TheVariants.{Tm, Tc}
use Rattle.lpt_packet.specs.Sizes.{longest_packet}
use Rattle.lpt_part.specs.declared.fault.PartFault.{PartFault}
use Rattle.lpt_part.specs.FaultNames.{code_of}
use Rattle.lpt_part.specs.declared.kind.Kind.{Kind}
use Rattle.lpt_part.specs.declared.kind.Kind.TheVariants.{First, Middle, Last}
use Rattle.lpt_part.specs.Parts.{Piece, body_of, number_test, length_test, part_verdict}
use Rattle.lpt_part.specs.Splitting.{part_count, part_of, kind_at}
use Rattle.lpt_c.specs.declared.parts.LptPart.{LptPart}
use Rattle.lpt_c.specs.Buffers.{BufferText}
use Rattle.lpt_c.specs.Codes.{range, zero_number, kind_number_fault, part_length, short_message, long_message, no_such_part}

-- the kind of a number: 1 first, 2 intermediate, 3 last
abbrev pub kind_named : ℕ → Option Kind
kind_named n =
    if n == 1 then Some First
    else if n == 2 then Some Middle
    else if n == 3 then Some Last
    else None

-- the number of a kind
abbrev pub kind_number : Kind → ℕ
kind_number First = 1
kind_number Middle = 2
kind_number Last = 3

-- the subtype of a message, in a packet of this kind, that carries a part of that kind
abbrev pub part_subtype : PacketKind → Kind → ℕ
part_subtype Tm kind = kind_number kind
part_subtype Tc kind = 8 + kind_number kind

-- the number of the kind of the part that a message of service 13 and this subtype carries, or 0
abbrev pub kind_of_subtype : PacketKind → ℕ → ℕ
kind_of_subtype packet subtype =
    if subtype == part_subtype packet First then kind_number First
    else if subtype == part_subtype packet Middle then kind_number Middle
    else if subtype == part_subtype packet Last then kind_number Last
    else 0

-- the same for a message of any service, in a packet of any kind
abbrev pub carried_kind : Option PacketKind → (service subtype : ℕ) → ℕ
carried_kind None service subtype = 0
carried_kind (Some packet) service subtype =
    if service == 13 then kind_of_subtype packet subtype else 0

-- whether it is a part size
abbrev pub is_part_size : ℕ → Bool
is_part_size p = nat_le 4 p && nat_le p 1024

-- how many parts a message has; none if that is no part size, or no message is so long
abbrev pub count_told : (len p : ℕ) → ℕ
count_told len p =
    if is_part_size p && nat_le len longest_packet then part_count len p else 0

-- a part of these fields
abbrev pub piece_of : (id number : ℕ) → Kind → List ℕ → Piece
piece_of id number kind octets =
    record { id = id; number = number; kind = kind; octets = octets }

-- ---- reading

-- a part, or the number of its fault
abbrev pub part_numbered : Result Piece PartFault → Result Piece ℕ
part_numbered (Ok q) = Ok q
part_numbered (Err e) = Err (code_of e)

-- the part of a kind that a body is
abbrev pub part_read : Option Kind → List ℕ → ℕ → Result Piece ℕ
part_read None body p = Err range
part_read (Some kind) body p =
    if is_part_size p then part_numbered (part_verdict kind body p) else Err range

-- a part as it is reported: its octets stand behind the identifier and the number
abbrev pub part_told : Piece → LptPart
part_told q = record {
  id = q.id;
  number = q.number;
  kind = kind_number q.kind;
  at = 4;
  len = length q.octets;
}

-- ---- writing

-- the body of a part, or why there is no such part
abbrev pub part_text : Option Kind → (id number p : ℕ) → List ℕ → BufferText
part_text None id number p octets = Err range
part_text (Some kind) id number p octets =
    if is_part_size p then
    (if number == 0 then Err zero_number
    else if number_test kind number then
    (if length_test kind number (length octets) p then Ok (body_of (piece_of id number kind octets))
    else Err part_length)
    else Err kind_number_fault)
    else Err range

-- the kind of part k of a message
abbrev pub kind_in : List ℕ → (p k : ℕ) → Kind
kind_in m p k = kind_at k (part_count (length m) p)

-- the body of part k of a message, or why it has none
abbrev pub slice_text : List ℕ → (p id k : ℕ) → BufferText
slice_text m p id k =
    if is_part_size p then
    (if nat_lt p (length m) then
    (if nat_le (length m) longest_packet then
    (if nat_le 1 k && nat_le k (part_count (length m) p)
    then Ok (body_of (piece_of id k (kind_in m p k) (part_of m p k)))
    else Err no_such_part)
    else Err long_message)
    else Err short_message)
    else Err range

-- the kind that is reported, if there is such a part
abbrev pub kind_told : BufferText → Kind → ℕ → ℕ
kind_told (Ok text) kind old = kind_number kind
kind_told (Err fault) kind old = old
