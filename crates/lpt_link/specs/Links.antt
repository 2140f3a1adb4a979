-- What a link has, and what each call does to it.
use Rattle.std.specs.Prelude.{◌≡◌, ℕ, zero, suc, ◌<◌, Bool, true, false, ◌&&◌, ◌||◌, ◌⊎◌, if◌then◌else◌, List, [], ◌∷◌, ◌++◌, length, Option, Some, None, is_some, IfSome, slice_get}
use Rattle.std.specs.List.{list_any}
use Rattle.std.specs.Option.{option_map, option_map_or, option_and_then, option_eq}
use Rattle.lpt_packet.specs.declared.direction.Direction.{Direction}
use Rattle.lpt_packet.specs.Names.{Name, same_name}
use Rattle.lpt_link.specs.declared.fault.LinkFault.{LinkFault}
use Rattle.lpt_link.specs.declared.fault.LinkFault.TheVariants.{NotHeld, HandFull, HandEmpty}
use Rattle.lpt_link.specs.declared.hands.Hands.{Hands}
use Rattle.lpt_events.specs.declared.lane.Lane.{Lane}
use Rattle.lpt_link.specs.declared.packet.LinkPacket.{LinkPacket}
use Rattle.lpt_link.specs.Counts.{LinkCounts}
use Rattle.lpt_link.specs.Hands.{no_hands, hand_in, with_hand}
use Rattle.lpt_events.specs.Lanes.{lanes, lane_direction, same_direction}

-- ---- what a link has

-- every packet put so far, each at the place of its number, and the hands
pub record LinkData : Type 0 where
  pub packets : List LinkPacket
  pub hands : Hands

-- the data, how many packets can be put without taking memory, and the transactions of which one can
pub record LinkView : Type 0 where
  pub at : LinkData
  pub spare : ℕ
  pub places : LinkCounts

-- nothing was put, and nothing is in a hand
abbrev pub empty_link : LinkData
empty_link = record { packets = []; hands = no_hands }

-- ---- what is asked of it

-- whether the packet is a part of this transaction, by its direction and tag
abbrev pub is_of : Direction → Name → LinkPacket → Bool
is_of direction name p =
    same_direction p.direction direction && option_eq same_name p.tag (Some name)

-- the octets of the packet numbered n, held or lost
abbrev pub octets_at : LinkData → ℕ → Option (List ℕ)
octets_at d n = option_map (λ p. p.octets) (slice_get d.packets n)

-- whether the link holds the packet numbered n
abbrev pub is_held : LinkData → ℕ → Bool
is_held d n = option_map_or (λ p. p.held) (slice_get d.packets n) false

-- whether it holds it, and the packet goes in this direction
abbrev pub is_held_for : LinkData → Direction → ℕ → Bool
is_held_for d direction n =
    option_map_or (λ p. p.held && same_direction p.direction direction)
    (slice_get d.packets n) false

-- the number of the packet in a lane's hand
abbrev pub hand_of : LinkData → Lane → Option ℕ
hand_of d lane = hand_in d.hands lane

-- the packet in a lane's hand
abbrev pub packet_in_hand : LinkData → Lane → Option LinkPacket
packet_in_hand d lane = option_and_then (slice_get d.packets) (hand_of d lane)

-- whether the packet in a lane's hand is a part of this transaction
abbrev pub hand_has : LinkData → Direction → Name → Lane → Bool
hand_has d direction name lane = option_map_or (is_of direction name) (packet_in_hand d lane) false

-- whether a held packet is a part of this transaction
abbrev pub any_held : LinkData → Direction → Name → Bool
any_held d direction name = list_any (λ p. p.held && is_of direction name p) d.packets

-- whether a packet in some hand is
abbrev pub any_in_hand : LinkData → Direction → Name → Bool
any_in_hand d direction name = list_any (hand_has d direction name) lanes

-- whether a held packet, or one in a hand, is a part of this transaction
abbrev pub holds : LinkData → Direction → Name → Bool
holds d direction name = any_held d direction name || any_in_hand d direction name

-- ---- what the calls do

-- a packet is put: it gets the next number and is held
abbrev pub after_put : LinkData → Direction → Option Name → List ℕ → LinkData
after_put d direction tag octets = record {
  packets = d.packets
      ++ record { direction = direction; tag = tag; octets = octets; held = true } ∷ [];
  hands = d.hands;
}

-- the packets, of which the one numbered n is held no more
abbrev pub with_lost : List LinkPacket → ℕ → List LinkPacket
with_lost [] n = []
with_lost (p ∷ ps) zero = record p { held = false } ∷ ps
with_lost (p ∷ ps) (suc n) = p ∷ with_lost ps n

-- the packet numbered n is lost
abbrev pub after_lose : LinkData → ℕ → LinkData
after_lose d n = record { packets = with_lost d.packets n; hands = d.hands }

-- the packet numbered n is in the lane's hand
abbrev pub after_take : LinkData → Lane → ℕ → LinkData
after_take d lane n = record { packets = d.packets; hands = with_hand d.hands lane (Some n) }

-- the lane's hand is empty
abbrev pub after_drop : LinkData → Lane → LinkData
after_drop d lane = record { packets = d.packets; hands = with_hand d.hands lane None }

-- ---- why they are refused

-- why a packet can't be lost
abbrev pub refusal_lose : LinkData → ℕ → Option LinkFault
refusal_lose d n = if is_held d n then None else Some NotHeld

-- why a lane can't take a packet, the first reason
abbrev pub refusal_take : LinkData → Lane → ℕ → Option LinkFault
refusal_take d lane n =
    if is_some (hand_of d lane) then Some HandFull
    else if is_held_for d (lane_direction lane) n then None
    else Some NotHeld

-- why a lane's hand can't be emptied
abbrev pub refusal_drop : LinkData → Lane → Option LinkFault
refusal_drop d lane = if is_some (hand_of d lane) then None else Some HandEmpty

-- ---- what is always so

-- n is the number of a packet of this direction
pub record IsNumberOf (d : LinkData) (direction : Direction) (n : ℕ) : Type 0 where
  pub was_put : n < length d.packets
  pub goes : option_map (λ p. p.direction) (slice_get d.packets n) ≡ Some direction

-- each hand that isn't empty has the number of a packet of its lane's direction
abbrev pub IsSound : LinkData → Type 0
IsSound d = (lane : Lane) → IfSome (hand_of d lane) (IsNumberOf d (lane_direction lane))

-- the packet numbered n is a part of this transaction, and it is held or in some lane's hand
pub record IsPresent (d : LinkData) (direction : Direction) (name : Name) (n : ℕ) : Type 0 where
  pub packet : LinkPacket
  pub numbered : slice_get d.packets n ≡ Some packet
  pub goes : packet.direction ≡ direction
  pub tagged : packet.tag ≡ Some name
  pub present : (packet.held ≡ true) ⊎ ((lane : Lane) × (hand_of d lane ≡ Some n))
