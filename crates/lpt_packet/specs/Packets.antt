-- What a space packet is, and the first fault of octets that are none.
use Rattle.std.specs.Prelude.{◌≡◌, ℕ, ◌+◌, ◌-◌, ◌*◌, ◌/◌, ◌%◌, ◌≤◌, ◌==◌, nat_lt, nat_le, Bool, ◌&&◌, if◌then◌else◌, List, ◌++◌, length, take, drop, Option, Some, None, Result, Ok, Err}
use Rattle.lpt_packet.specs.declared.fault.PacketFault.{PacketFault}
use Rattle.lpt_packet.specs.declared.fault.PacketFault.TheVariants.{Short, Version, Length, Segmented, NoSecondary, Checksum}
use Rattle.lpt_packet.specs.declared.packet.PacketKind.{PacketKind}
use Rattle.lpt_packet.specs.declared.packet.PacketKind.TheVariants.{Tm, Tc}
use Rattle.lpt_packet.specs.declared.packet.Packet.{Packet}
use Rattle.lpt_packet.specs.declared.packet.Seen.{Seen}
use Rattle.lpt_packet.specs.declared.packet.Seen.TheVariants as seen_as
use Rattle.lpt_packet.specs.Ranges.{InRange}
use Rattle.lpt_packet.specs.Numbers.{be, word_at, same_octets}
use Rattle.lpt_packet.specs.Checksums.{checksum}
use Rattle.lpt_packet.specs.Sizes.{longest_packet}

-- a packet's fields, without where its data field lies in memory
pub record Fields : Type 0 where
  pub kind : PacketKind
  pub apid : ℕ
  pub count : ℕ
  pub octets : List ℕ

-- the fields of this kind, APID, sequence count and data field
abbrev pub fields_of : PacketKind → ℕ → ℕ → List ℕ → Fields
fields_of kind apid count octets = record {
  kind = kind;
  apid = apid;
  count = count;
  octets = octets;
}

-- the fields of a packet
abbrev pub fields : Packet → Fields
fields p = fields_of p.kind p.apid p.count p.field.now

-- 0 for telemetry, 1 for a telecommand
abbrev pub packet_type : PacketKind → ℕ
packet_type Tm = 0
packet_type Tc = 1

-- version 3 bits, 0; type 1; secondary header flag 1, set; APID 11; sequence flags 2, both set;
-- sequence count 14; data length 16, the octets after these six less one: a data field of so many
-- octets, and the checksum
abbrev pub header_of : PacketKind → (apid count len : ℕ) → List ℕ
header_of kind apid count len =
    be (packet_type kind * 4096 + 2048 + apid) 2 ++ be (49152 + count) 2 ++ be (len + 1) 2

-- the primary header of these fields
abbrev pub header : Fields → List ℕ
header f = header_of f.kind f.apid f.count (length f.octets)

-- octets with their packet error control behind them
abbrev pub octets_sealed : List ℕ → List ℕ
octets_sealed front = front ++ be (checksum front) 2

-- the one encoding of a packet
unfoldable pub spelling : Fields → List ℕ
spelling f = octets_sealed (header f ++ f.octets)

-- the octets are this packet
pub record IsPacket (b : List ℕ) (f : Fields) : Type 0 where
  pub ranges : InRange f.apid f.count f.octets
  pub spelled : b ≡ spelling f

-- the octets are an idle packet: version 0, APID 2047, and the right data length
pub record IsIdle (b : List ℕ) : Type 0 where
  pub long : 7 ≤ length b
  pub version : word_at b 0 / 8192 ≡ 0
  pub apid : word_at b 0 % 2048 ≡ 2047
  pub data_length : length b ≡ 7 + word_at b 4

-- what octets can be seen as
pub data Sight : Type 0 where
  IdlePacket : Sight
  APacket : Fields → Sight

-- what a reader's answer says
abbrev pub sight : Seen → Sight
sight seen_as.Idle = IdlePacket
sight (seen_as.Packet p) = APacket (fields p)

-- the octets are what they are seen as
abbrev pub IsSight : List ℕ → Sight → Type 0
IsSight b IdlePacket = IsIdle b
IsSight b (APacket f) = IsPacket b f

-- the packet type that a header's first word says
abbrev pub kind_of : ℕ → PacketKind
kind_of first = if first / 4096 % 2 == 1 then Tc else Tm

-- the fields that stand at a packet's places
abbrev pub fields_at : List ℕ → Fields
fields_at b = record {
  kind = kind_of (word_at b 0);
  apid = word_at b 0 % 2048;
  count = word_at b 2 % 16384;
  octets = take (length b - 8) (drop 6 b);
}

-- whether the octets are an idle packet
abbrev pub is_idle : List ℕ → Bool
is_idle b = nat_le 7 (length b) && (word_at b 0 / 8192 == 0) && (word_at b 0 % 2048 == 2047) && (length b == 7 + word_at b 4)

-- whether the fields at their places are in their ranges and encode as the octets
abbrev pub is_packet : List ℕ → Bool
is_packet b = nat_le (length b) longest_packet && nat_le (word_at b 0 % 2048) 2046 && same_octets b (spelling (fields_at b))

-- what octets are, if they are a packet or idle
unfoldable pub packet_seen : List ℕ → Option Sight
packet_seen b = if is_idle b then Some IdlePacket else if is_packet b
    then Some (APacket (fields_at b)) else None

-- what octets are, or the first test that they fail, in this order
unfoldable pub verdict : List ℕ → Result Sight PacketFault
verdict b =
    if nat_lt (length b) 7 then Err Short
    else if word_at b 0 / 8192 == 0 then
    (if length b == 7 + word_at b 4 then
    (if word_at b 0 % 2048 == 2047 then Ok IdlePacket
    else if word_at b 2 / 16384 == 3 then
    (if word_at b 0 / 2048 % 2 == 1 then
    (if nat_lt (length b) 8 then Err Checksum
    else if checksum (take (length b - 2) b) == word_at b (length b - 2) then Ok (APacket (fields_at b))
    else Err Checksum)
    else Err NoSecondary)
    else Err Segmented)
    else Err Length)
    else Err Version

-- what a reader answered is this verdict
abbrev pub Gives : Result Seen PacketFault → Result Sight PacketFault → Type 0
Gives (Ok s) v = v ≡ Ok (sight s)
Gives (Err e) v = v ≡ Err e
