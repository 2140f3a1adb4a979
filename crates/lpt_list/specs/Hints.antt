-- By which other layout the first part of a message would be read.
use Rattle.std.specs.Prelude.{ℕ, ◌+◌, ◌&&◌, nat_le, min, Bool, true, false, if◌then◌else◌, List, length, slice_index, Option, Some, None, is_some, Result, Ok, Err}
use Rattle.std.specs.Option.{option_map_or}
use Rattle.lpt_packet.specs.declared.fault.PacketFault.{PacketFault}
use Rattle.lpt_packet.specs.declared.packet.PacketKind.{PacketKind}
use Rattle.lpt_packet.specs.declared.packet.PacketKind.TheVariants.{Tm, Tc}
use Rattle.lpt_packet.specs.Numbers.{word_at}
use Rattle.lpt_packet.specs.Packets.{Sight, IdlePacket, APacket, kind_of}
use Rattle.lpt_pus.specs.declared.fault.PusFault.{PusFault}
use Rattle.lpt_part.specs.declared.kind.Kind.{Kind}
use Rattle.lpt_part.specs.declared.kind.Kind.TheVariants.{First, Middle, Last}
use Rattle.lpt_events.specs.Arrivals.{carried_kind}
use Rattle.lpt_layout.specs.Messages.{Said, message_verdict}
use Rattle.lpt_layout.specs.Packets.{verdict_as}
use Rattle.lpt_carried.specs.declared.layouts.Layouts.{Layouts}
use Rattle.lpt_carried.specs.declared.layouts.Tailored.{Tailored}
use Rattle.lpt_list.specs.declared.hints.Hint.{Hint}
use Rattle.lpt_list.specs.declared.hints.Hint.TheVariants.{Time, Spare, Bare}
use Rattle.lpt_list.specs.Said.{direction_of, layout_in, part_at}

-- whether a message carries a part that is read
abbrev pub is_part : Tailored → PacketKind → Said → Bool
is_part t kind s =
    option_map_or (λ part. is_some (part_at t part s.body))
    (carried_kind (direction_of kind) s.service s.subtype) false

-- whether what is read as a message is one that does
abbrev pub is_part_in : Tailored → PacketKind → Result Said PusFault → Bool
is_part_in t kind (Ok s) = is_part t kind s
is_part_in t kind (Err e) = false

-- whether what octets are seen as carries a part
abbrev pub is_part_seen : Tailored → Result Sight PacketFault → Bool
is_part_seen t (Ok IdlePacket) = false
is_part_seen t (Ok (APacket f)) = is_part_in t f.kind (message_verdict t.packets f.kind f)
is_part_seen t (Err e) = false

-- whether octets are a packet of this layout that carries a part
abbrev pub shows_part : Tailored → List ℕ → Bool
shows_part t b = is_part_seen t (verdict_as t.packets.has_checksum b)

-- whether they are one by the layout of their packet type
abbrev pub is_part_as : Layouts → List ℕ → Bool
is_part_as l b = shows_part (layout_in l b) b

-- whether it is the first part of a message
abbrev pub is_first : Option Kind → Bool
is_first (Some First) = true
is_first (Some Middle) = false
is_first (Some Last) = false
is_first None = false

-- whether octets have the message type of a first part, which stands at one place by any layout
abbrev pub has_first_type : PacketKind → List ℕ → Bool
has_first_type kind b =
    nat_le 9 (length b)
    && is_first (carried_kind (direction_of kind) (slice_index b 7) (slice_index b 8))

-- a layout with so many octets more: of time, or spare ones of telecommands, which have no time
abbrev pub longer : PacketKind → ℕ → Tailored → Tailored
longer Tm more t =
    record t { packets = record t.packets { time = min (t.packets.time + more) 255 } }
longer Tc more t =
    record t { packets = record t.packets { spare = min (t.packets.spare + more) 255 } }

-- what is told of that
abbrev pub hint_longer : PacketKind → ℕ → Tailored → Hint
hint_longer Tm more t = Time (longer Tm more t).packets.time
hint_longer Tc more t = Spare (longer Tc more t).packets.spare

-- the same without a packet error control
abbrev pub bare : Tailored → Tailored
bare t = record t { packets = record t.packets { has_checksum = false } }

-- the first of the other layouts by which octets are a packet that carries a part
abbrev pub hint_for : PacketKind → Tailored → List ℕ → Option Hint
hint_for kind t b =
    if shows_part (longer kind 1 t) b then Some (hint_longer kind 1 t)
    else if shows_part (longer kind 2 t) b then Some (hint_longer kind 2 t)
    else if shows_part (longer kind 3 t) b then Some (hint_longer kind 3 t)
    else if shows_part (longer kind 4 t) b then Some (hint_longer kind 4 t)
    else if shows_part (bare t) b then Some Bare
    else None

-- the same of a first part, if they are none by their own: another part may have any number
abbrev pub hint_unless : PacketKind → Tailored → List ℕ → Option Hint
hint_unless kind t b =
    if has_first_type kind b then (if shows_part t b then None else hint_for kind t b) else None

abbrev pub hint_of : Layouts → List ℕ → Option Hint
hint_of l b = hint_unless (kind_of (word_at b 0)) (layout_in l b) b
