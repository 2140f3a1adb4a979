-- The lanes' hands, and what is in them.
use Rattle.std.specs.Prelude.{ℕ, if◌then◌else◌, [], ◌∷◌, slice_get, Option, Some, None}
use Rattle.std.specs.Option.{option_map_or}
use Rattle.lpt_packet.specs.declared.direction.Direction.{Direction}
use Rattle.lpt_events.specs.declared.lane.Lane.{Lane}
use Rattle.lpt_events.specs.Lanes.{lane_direction, same_lane}
use Rattle.lpt_events.specs.declared.config.Config.{Config}
use Rattle.lpt_events.specs.Arrivals.{Arrival, NotRead, arrival_in}
use Rattle.lpt_acts.specs.Acts.{Act, Take, Deliver}
use Rattle.lpt_journal.specs.Journal.{SentPacket, History}
use Rattle.lpt_journal.specs.Link.{sent}

-- ---- the hands

-- the number in a lane's hand after an event
abbrev pub hand_after : Act → Lane → Option ℕ → Option ℕ
hand_after (Take k n) l before = if same_lane k l then Some n else before
hand_after (Deliver k) l before = if same_lane k l then None else before
hand_after _ l before = before

-- the number that the lane took last, if it delivered none after that
abbrev pub hand : History → Lane → Option ℕ
hand [] l = None
hand (x ∷ h) l = hand_after x.event l (hand h l)

-- ---- what a packet is to the node that receives it

-- what a packet on the link is
abbrev pub arrival_of : Config → SentPacket → Arrival
arrival_of c p = arrival_in c p.direction p.octets

-- what the packet numbered n is, delivered in this direction; if there is none, that is refused
abbrev pub arrival_at : Config → History → Direction → ℕ → Arrival
arrival_at c h d n = option_map_or (λ p. arrival_in c d p.octets) (slice_get (sent h) n) NotRead

-- what the packet in a lane's hand is; if the hand is empty, its delivery is refused
abbrev pub in_hand : Config → History → Lane → Arrival
in_hand c h l = option_map_or (arrival_at c h (lane_direction l)) (hand h l) NotRead
