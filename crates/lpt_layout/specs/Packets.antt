-- What a packet is if it may have no packet error control.
use Rattle.std.specs.Prelude.{◌≡◌, ℕ, ◌+◌, ◌-◌, ◌*◌, ◌/◌, ◌%◌, ◌≤◌, ◌==◌, nat_lt, Bool, true, false, if◌then◌else◌, List, ◌++◌, length, drop, Result, Ok, Err}
use Rattle.lpt_packet.specs.declared.fault.PacketFault.{PacketFault}
use Rattle.lpt_packet.specs.declared.fault.PacketFault.TheVariants.{Short, Version, Length, Segmented, NoSecondary}
use Rattle.lpt_packet.specs.Numbers.{be, word_at}
use Rattle.lpt_packet.specs.Packets.{Fields, fields_of, Sight, IdlePacket, APacket, packet_type, kind_of, octets_sealed, spelling, verdict, IsIdle}
use Rattle.lpt_layout.specs.declared.packet.PacketAs.{PacketAs}
use Rattle.lpt_layout.specs.declared.packet.SeenAs.{SeenAs}
use Rattle.lpt_layout.specs.declared.packet.SeenAs.TheVariants as seen_as
use Rattle.lpt_layout.specs.Layouts.{trailer}

-- the fields of a packet
abbrev pub fields : PacketAs → Fields
fields p = fields_of p.kind p.apid p.count p.field.now

-- the primary header of a packet that has no packet error control: as another's, and its data
-- length is that of the data field alone, less one
abbrev pub bare_header : Fields → List ℕ
bare_header f =
    be (packet_type f.kind * 4096 + 2048 + f.apid) 2 ++ be (49152 + f.count) 2
    ++ be (length f.octets - 1) 2

-- octets, with their packet error control behind them if there is one
abbrev pub packet_closed : Bool → List ℕ → List ℕ
packet_closed true front = octets_sealed front
packet_closed false front = front

-- the one encoding of a packet, with a packet error control or without
unfoldable pub spelling_as : Bool → Fields → List ℕ
spelling_as true f = spelling f
spelling_as false f = bare_header f ++ f.octets

-- a packet has 1 to 65,536 octets behind its primary header
pub record FieldsFit (sealed : Bool) (f : Fields) : Type 0 where
  pub apid_fits : f.apid ≤ 2046
  pub count_fits : f.count ≤ 16383
  pub some : 1 ≤ length f.octets + trailer sealed
  pub field_fits : length f.octets + trailer sealed ≤ 65536

-- the octets are this packet
pub record IsPacketAs (sealed : Bool) (b : List ℕ) (f : Fields) : Type 0 where
  pub ranges : FieldsFit sealed f
  pub spelled : b ≡ spelling_as sealed f

-- the fields that stand at the places of a packet without a packet error control
abbrev pub bare_at : List ℕ → Fields
bare_at b = record {
  kind = kind_of (word_at b 0);
  apid = word_at b 0 % 2048;
  count = word_at b 2 % 16384;
  octets = drop 6 b;
}

-- what octets are, or the first test that they fail, in this order; without a packet error control
-- the tests are the same but for the last
unfoldable pub verdict_as : Bool → List ℕ → Result Sight PacketFault
verdict_as true b = verdict b
verdict_as false b =
    if nat_lt (length b) 7 then Err Short
    else if word_at b 0 / 8192 == 0 then
    (if length b == 7 + word_at b 4 then
    (if word_at b 0 % 2048 == 2047 then Ok IdlePacket
    else if word_at b 2 / 16384 == 3 then
    (if word_at b 0 / 2048 % 2 == 1 then Ok (APacket (bare_at b))
    else Err NoSecondary)
    else Err Segmented)
    else Err Length)
    else Err Version

-- what a reader's answer says
abbrev pub sight : SeenAs → Sight
sight seen_as.Idle = IdlePacket
sight (seen_as.Packet p) = APacket (fields p)

-- the octets are what they are seen as
abbrev pub IsSightAs : Bool → List ℕ → Sight → Type 0
IsSightAs sealed b IdlePacket = IsIdle b
IsSightAs sealed b (APacket f) = IsPacketAs sealed b f

-- what a reader answered is this verdict
abbrev pub Gives : Result SeenAs PacketFault → Result Sight PacketFault → Type 0
Gives (Ok s) v = v ≡ Ok (sight s)
Gives (Err e) v = v ≡ Err e
