-- Telecommands and telemetry of a layout: how a packet encodes one, and how one is read.
use Rattle.std.specs.Prelude.{◌≡◌, ℕ, ◌+◌, ◌*◌, ◌/◌, ◌%◌, ◌^◌, ◌<◌, ◌==◌, nat_le, Bool, List, ◌∷◌, ◌++◌, length, take, drop, slice_index, Result}
use Rattle.lpt_packet.specs.declared.packet.PacketKind.{PacketKind}
use Rattle.lpt_packet.specs.declared.packet.PacketKind.TheVariants.{Tm, Tc}
use Rattle.lpt_packet.specs.Numbers.{be}
use Rattle.lpt_packet.specs.Packets.{Fields, fields_of}
use Rattle.lpt_pus.specs.declared.fault.PusFault.{PusFault}
use Rattle.lpt_pus.specs.Commands.{is_tc}
use Rattle.lpt_pus.specs.Telemetry.{is_tm}
use Rattle.lpt_pus.specs.Messages.{headers_tested}
use Rattle.lpt_pus.specs.Ranges.{TcFits}
use Rattle.lpt_layout.specs.declared.layout.Layout.{Layout}
use Rattle.lpt_layout.specs.declared.message.Message.{Message}
use Rattle.lpt_layout.specs.Layouts.{version_number, user_at, time_at, spare_at, body_at}
use Rattle.lpt_layout.specs.Numbers.{octets_of, number_at}

-- what a message says
pub record Said : Type 0 where
  pub apid : ℕ
  pub count : ℕ
  pub flags : ℕ
  pub service : ℕ
  pub subtype : ℕ
  pub counter : ℕ
  pub user : ℕ
  pub time : List ℕ
  pub spare : List ℕ
  pub body : List ℕ

-- what a message says, without where it lies in memory
abbrev pub message_said : Message → Said
message_said m = record {
  apid = m.apid;
  count = m.count;
  flags = m.flags;
  service = m.service;
  subtype = m.subtype;
  counter = m.counter;
  user = m.user;
  time = m.time.now;
  spare = m.spare.now;
  body = m.body.now;
}

-- each field is in its range, and as wide as the layout has it
pub record HeadFits (l : Layout) (s : Said) : Type 0 where
  pub ranges : TcFits s.apid s.count s.flags
  pub service_fits : s.service < 256
  pub subtype_fits : s.subtype < 256
  pub counter_fits : s.counter < 256 ^ octets_of l.counter
  pub user_fits : s.user < 256 ^ octets_of l.user
  pub time_fits : length s.time ≡ l.time
  pub spare_fits : length s.spare ≡ l.spare

-- PUS version 4 bits; flags or status 4; service type 8; message subtype 8; then, each as wide
-- as the layout has it, message type counter, source or destination ID, time and spare octets;
-- then the body
unfoldable pub field_of : Layout → Said → List ℕ
field_of l s =
    (16 * version_number l.version + s.flags) ∷ s.service ∷ s.subtype
    ∷ be s.counter (octets_of l.counter) ++ be s.user (octets_of l.user) ++ s.time ++ s.spare
    ++ s.body

-- the packet of a message of this type
abbrev pub packet_of : Layout → PacketKind → Said → Fields
packet_of l kind s = fields_of kind s.apid s.count (field_of l s)

-- the packet is this message, of this type
pub record IsMessage (l : Layout) (kind : PacketKind) (f : Fields) (s : Said) : Type 0 where
  pub fits : HeadFits l s
  pub spelled : f ≡ packet_of l kind s

-- what stands at a message's places
abbrev pub said_at : Layout → Fields → Said
said_at l f = record {
  apid = f.apid;
  count = f.count;
  flags = slice_index f.octets 0 % 16;
  service = slice_index f.octets 1;
  subtype = slice_index f.octets 2;
  counter = number_at l.counter f.octets 3;
  user = number_at l.user f.octets (user_at l);
  time = take l.time (drop (time_at l) f.octets);
  spare = take l.spare (drop (spare_at l) f.octets);
  body = drop (body_at l) f.octets;
}

-- whether the second packet type is the first
abbrev pub is_kind : PacketKind → PacketKind → Bool
is_kind Tm kind = is_tm kind
is_kind Tc kind = is_tc kind

-- the message of this type that a packet is, or the first test that it fails
unfoldable pub message_verdict : Layout → PacketKind → Fields → Result Said PusFault
message_verdict l kind f =
    headers_tested (is_kind kind f.kind) (nat_le (body_at l) (length f.octets))
    (slice_index f.octets 0 / 16 == version_number l.version) (said_at l f)
