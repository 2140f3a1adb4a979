-- Where the octets of a link's packets are.
use Rattle.std.specs.Prelude.{◌≡◌, ℕ, ◌+◌, ◌<◌, ◌≤◌, Bool, true, false, List, [], length, map, get_or, slice_range}
use Rattle.lpt_link.specs.declared.packet.LinkPacket.{LinkPacket}
use Rattle.lpt_link.specs.declared.packets.Kept.{Kept}
use Rattle.lpt_link.specs.declared.packets.Place.{Place}

-- the octets at a place: a list of those apart, or some of those of all
abbrev pub octets_by : Bool → List ℕ → List (List ℕ) → ℕ → ℕ → List ℕ
octets_by true octets apart at len = get_or apart at []
octets_by false octets apart at len = slice_range octets at (at + len)

abbrev pub octets_of : List ℕ → List (List ℕ) → Place → List ℕ
octets_of octets apart p = octets_by p.is_apart octets apart p.at p.len

-- there are octets at a place
abbrev pub IsThereBy : Bool → List ℕ → List (List ℕ) → ℕ → ℕ → Type 0
IsThereBy true octets apart at len = at < length apart
IsThereBy false octets apart at len = at + len ≤ length octets

abbrev pub IsThere : List ℕ → List (List ℕ) → Place → Type 0
IsThere octets apart p = IsThereBy p.is_apart octets apart p.at p.len

-- what was at a place is there still
abbrev pub Keeps : List ℕ → List (List ℕ) → List ℕ → List (List ℕ) → Type 0
Keeps old old_apart new new_apart =
    (p : Place) → IsThere old old_apart p
    → IsThere new new_apart p × (octets_of new new_apart p ≡ octets_of old old_apart p)

-- a packet, by what is kept of it
abbrev pub packet_of : List ℕ → List (List ℕ) → Kept → LinkPacket
packet_of octets apart k = record {
  direction = k.head.direction;
  tag = k.head.tag;
  octets = octets_of octets apart k.place;
  held = k.head.held;
}

abbrev pub packets_of : List ℕ → List (List ℕ) → List Kept → List LinkPacket
packets_of octets apart = map (packet_of octets apart)
