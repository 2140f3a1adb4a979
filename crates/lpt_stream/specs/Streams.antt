-- The packet at the front of a stream, by the length that its header says.
use Rattle.std.specs.Prelude.{◌≡◌, ◌≢◌, ℕ, ◌+◌, ◌-◌, ◌/◌, ◌%◌, ◌<◌, ◌≤◌, ◌⊎◌, ◌++◌, nat_lt, true, false, if◌then◌else◌, List, [], ◌∷◌, length, take, drop, Option, Some, None, Err}
use Rattle.std.specs.List.{flat_map}
use Rattle.lpt_packet.specs.Numbers.{word_at}
use Rattle.lpt_packet.specs.declared.fault.PacketFault.{PacketFault}
use Rattle.lpt_packet.specs.Packets.{Fields, IsPacket, IsIdle, verdict}
use Rattle.lpt_packet.specs.Checksums.{checksum}
use Rattle.lpt_packet.specs.Sizes.{primary_header, longest_packet}
use Rattle.lpt_stream.specs.Pieces.{ends_in_checksum, ends_in_packet, is_of_flags}

-- ---- the front

-- how many octets the packet at the front has, once its header has come
abbrev pub length_at : List ℕ → Option ℕ
length_at b = if nat_lt (length b) primary_header then None else Some (7 + word_at b 4)

-- how many octets must have come before more can be said: a header's, and then the packet's
abbrev pub octets_wanted : List ℕ → ℕ
octets_wanted b = if nat_lt (length b) primary_header then primary_header else 7 + word_at b 4

-- less than a packet
abbrev pub IsUnfinished : List ℕ → Type 0
IsUnfinished b = length b < octets_wanted b

-- the octets up to a place, and those behind it
abbrev pub cut_at : ℕ → List ℕ → List ℕ × List ℕ
cut_at n b = (take n b, drop n b)

-- the packet at the front and what comes behind it, if it has come whole
unfoldable pub front_of : List ℕ → Option (List ℕ × List ℕ)
front_of b = if nat_lt (length b) (octets_wanted b) then None else Some (cut_at (7 + word_at b 4) b)

-- ---- the stream

-- as many octets as their header says
pub record IsFramed (b : List ℕ) : Type 0 where
  pub headed : primary_header ≤ length b
  pub whole : length b ≡ 7 + word_at b 4

-- the octets of pieces, one behind the other
abbrev pub all_octets : List (List ℕ) → List ℕ
all_octets pieces = flat_map (λ b. b) pieces

-- ---- packets

-- the octets are a packet, or an idle one that is no longer than a packet may be
abbrev pub IsPacketOrIdle : List ℕ → Type 0
IsPacketOrIdle b = ((f : Fields) × IsPacket b f) ⊎ (IsIdle b × (length b ≤ longest_packet))

-- each is a packet, or an idle one
abbrev pub IsStream : List (List ℕ) → Type 0
IsStream [] = Unit {0}
IsStream (b ∷ bs) = IsPacketOrIdle b × IsStream bs

-- the octets are a packet with a right checksum, whatever its flags say: one that has no secondary
-- header, or is a segment, is sound as well
pub record IsSound (b : List ℕ) : Type 0 where
  pub long : 8 ≤ length b
  pub short : length b ≤ longest_packet
  pub version : word_at b 0 / 8192 ≡ 0
  pub data_length : length b ≡ 7 + word_at b 4
  pub busy : word_at b 0 % 2048 ≢ 2047
  pub right : checksum (take (length b - 2) b) ≡ word_at b (length b - 2)

-- what is found right behind such octets: a packet, an idle one, or a sound one
abbrev pub IsInStep : List ℕ → Type 0
IsInStep b = IsPacketOrIdle b ⊎ IsSound b

-- each is
abbrev pub AreInStep : List (List ℕ) → Type 0
AreInStep [] = Unit {0}
AreInStep (b ∷ bs) = IsInStep b × AreInStep bs

-- ---- damage

-- as many octets as their header says, and no packet: a reader finds a fault, and if that is of
-- the flags alone, the checksum is wrong; and no packet inside of them ends where they end
pub record IsDamaged (b : List ℕ) : Type 0 where
  pub framed : IsFramed b
  pub short : length b ≤ longest_packet
  pub fault : PacketFault
  pub told : verdict b ≡ Err fault
  pub wrong : is_of_flags fault ≡ true → ends_in_checksum b ≡ false
  pub last : ends_in_packet b ≡ false

-- nothing comes, or a packet stands in front
abbrev pub IsEndOrPacket : List ℕ → Type 0
IsEndOrPacket b =
    (b ≡ []) ⊎ ((p : List ℕ) × (rest : List ℕ) × (f : Fields) × IsPacket p f × (b ≡ p ++ rest))
