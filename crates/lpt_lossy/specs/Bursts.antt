-- Changed bits of packets.
use Rattle.std.specs.Prelude.{◌≡◌, ℕ, ◌+◌, ◌&&◌, ◌||◌, nat_lt, Bool, true, false, List, ◌∷◌, [], ◌++◌, length, take, drop, slice_index, bit_xor, Option, None, Some, Result, Ok, Err}
use Rattle.lpt_packet.specs.declared.fault.PacketFault.{PacketFault}
use Rattle.lpt_packet.specs.declared.packet.PacketKind.{PacketKind}
use Rattle.lpt_packet.specs.declared.packet.PacketKind.TheVariants.{Tm, Tc}
use Rattle.lpt_packet.specs.declared.packet.Seen.{Seen}
use Rattle.lpt_packet.specs.declared.packet.Seen.TheVariants as seen_as
use Rattle.lpt_packet.specs.Bursts.{DifferInBurst}
use Rattle.lpt_packet.specs.Numbers.{word_at}
use Rattle.lpt_packet.specs.Packets.{Fields, Sight, IdlePacket, APacket, IsPacket, packet_seen}
use Rattle.lpt_carried.specs.declared.layouts.Layouts.{Layouts}
use Rattle.lpt_carried.specs.declared.layouts.Tailored.{Tailored}
use Rattle.lpt_lossy.specs.declared.dice.Odds.{Odds}
use Rattle.lpt_lossy.specs.declared.fate.Burst.{Burst}

-- whether these are bits of an octet, and some of them
abbrev pub has_bits : (mask : ℕ) → Bool
has_bits mask = nat_lt 0 mask && nat_lt mask 256

-- whether two octets are of the primary header; or, if not that is said, none of them is the first
-- octet or one of the length field, by which a stream is cut
abbrev pub is_there : (in_header : Bool) → (at : ℕ) → Bool
is_there true at = nat_lt at 5
is_there false at = (nat_lt 0 at && nat_lt at 3) || nat_lt 5 at

-- whether a burst changes bits, in two octets within so many, where it is said to
abbrev pub is_within : Burst → (len : ℕ) → Bool
is_within u len =
    (has_bits u.first || has_bits u.second) && is_there u.in_header u.at && nat_lt (u.at + 1) len

-- how packets of this type are laid out
abbrev pub tailored_for : PacketKind → Layouts → Tailored
tailored_for Tm l = l.telemetry
tailored_for Tc l = l.telecommands

-- whether octets are a packet that isn't idle, of a type that has a checksum
abbrev pub shows_changes : Layouts → Option Sight → Bool
shows_changes l None = false
shows_changes l (Some IdlePacket) = false
shows_changes l (Some (APacket f)) = (tailored_for f.kind l).packets.has_checksum

-- the same of what a reader answered
abbrev pub is_read : Layouts → Result Seen PacketFault → Bool
is_read l (Ok seen_as.Idle) = false
is_read l (Ok (seen_as.Packet p)) = (tailored_for p.kind l).packets.has_checksum
is_read l (Err e) = false

-- whether octets of these layouts are changed by a burst: it is within them, and they are a packet
-- that isn't idle, of a type that has a checksum
abbrev pub can_change : Layouts → Burst → List ℕ → Bool
can_change l u b = is_within u (length b) && shows_changes l (packet_seen b)

-- octets with those bits changed
abbrev pub bits_changed : Burst → List ℕ → List ℕ
bits_changed u b =
    take u.at b
    ++ (bit_xor (slice_index b u.at) u.first ∷ bit_xor (slice_index b (u.at + 1)) u.second ∷ [])
    ++ drop (u.at + 2) b

-- the octets, with changed bits or without
abbrev pub with_burst : Option Burst → List ℕ → List ℕ
with_burst None b = b
with_burst (Some u) b = bits_changed u b

-- whether these odds say that bits are ever changed, in primary headers or elsewhere
abbrev pub is_allowed : Odds → (in_header : Bool) → Bool
is_allowed odds true = nat_lt 0 odds.headers
is_allowed odds false = nat_lt 0 odds.damage

-- what of octets is as it was: all behind the header; or the first octet and the length field, by
-- which a stream is cut
abbrev pub IsKept : (in_header : Bool) → (b damaged : List ℕ) → Type 0
IsKept true b d = drop 6 d ≡ drop 6 b
IsKept false b d = (slice_index d 0 ≡ slice_index b 0) × (word_at d 4 ≡ word_at b 4)

-- octets that were a packet of a type that has a checksum, and are none any more: as many
pub record IsDamage (l : Layouts) (odds : Odds) (b damaged : List ℕ) : Type 0 where
  pub was : (f : Fields) × IsPacket b f × ((tailored_for f.kind l).packets.has_checksum ≡ true)
  pub none : (f : Fields) → ¬ IsPacket damaged f
  pub differ : DifferInBurst b damaged
  pub as_many : length damaged ≡ length b
  pub kept : (in_header : Bool) × (is_allowed odds in_header ≡ true) × IsKept in_header b damaged
