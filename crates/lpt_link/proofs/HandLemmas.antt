-- The numbers in the hands, and what the tests of a call tell of them.
use Rattle.std.proofs.Common.{◌≡◌, ◌∙◌, ap, sym, ℕ, zero, suc, ◌<◌, Bool, true, false, ◌&&◌, Option, None, Some, IfSome, List, [], ◌∷◌, length, slice_get, arith, length-append}
use Rattle.std.specs.Option.{option_map, option_map_or}
use Rattle.std.proofs.lemmas.Bool.{and_parts}
use Rattle.lpt_events.proofs.LaneLemmas.{same_direction-true}
use Rattle.lpt_packet.specs.Names.{Name}
use Rattle.lpt_packet.specs.declared.direction.Direction.{Direction}
use Rattle.lpt_events.specs.declared.lane.Lane.{Lane}
use Rattle.lpt_events.specs.declared.lane.Lane.TheVariants.{S1, S2, G1, G2}
use Rattle.lpt_events.specs.Lanes.{lane_direction, same_direction}
use Rattle.lpt_link.specs.declared.hands.Hands.{Hands}
use Rattle.lpt_link.specs.declared.packet.LinkPacket.{LinkPacket}
use Rattle.lpt_link.specs.Hands.{hand_in, with_hand}
use Rattle.lpt_link.specs.Links.{LinkData, hand_of, after_put, after_lose, is_held, is_held_for, IsNumberOf, IsSound}
use Rattle.lpt_link.proofs.PacketLists.{slice_get-push, length-with_lost, goes_lost}

-- ---- what a call's test tells

-- a test that passes has found a packet
pub found_within : (test : LinkPacket → Bool) (ps : List LinkPacket) (n : ℕ)
    → option_map_or test (slice_get ps n) false ≡ true
    → n < length ps
found_within test [] n h = absurd cc
found_within test (p ∷ ps) zero h = omega arith
found_within test (p ∷ ps) (suc n) h =
    let rest = found_within test ps n h in
    omega (arith, rest)

-- a packet that is found held has its mark
pub held_mark : (d : LinkData) (n : ℕ) (p : LinkPacket)
    → slice_get d.packets n ≡ Some p
    → is_held d n ≡ true
    → p.held ≡ true
held_mark d n p is held =
    sym (ap (λ (o : Option LinkPacket). option_map_or (λ q. q.held) o false) is) ∙ held

found_goes : (goes : Direction) (o : Option LinkPacket)
    → option_map_or (λ p. p.held && same_direction p.direction goes) o false ≡ true
    → option_map (λ p. p.direction) o ≡ Some goes
found_goes goes None h = absurd cc
found_goes goes (Some p) h =
    ap Some (same_direction-true p.direction goes
    (and_parts p.held (same_direction p.direction goes) h).1)

-- and one that is found for a lane goes in its direction
pub taken_number : (d : LinkData) (goes : Direction) (n : ℕ)
    → is_held_for d goes n ≡ true
    → IsNumberOf d goes n
taken_number d goes n held = record {
  was_put = found_within (λ p. p.held && same_direction p.direction goes) d.packets n held;
  goes = found_goes goes (slice_get d.packets n) held;
}

found_held : (goes : Direction) (o : Option LinkPacket)
    → option_map_or (λ p. p.held && same_direction p.direction goes) o false ≡ true
    → option_map_or (λ p. p.held) o false ≡ true
found_held goes None h = h
found_held goes (Some p) h = (and_parts p.held (same_direction p.direction goes) h).0

-- and is held
pub taken_held : (d : LinkData) (goes : Direction) (n : ℕ)
    → is_held_for d goes n ≡ true
    → is_held d n ≡ true
taken_held d goes n h = found_held goes (slice_get d.packets n) h

-- ---- numbers in hands

sound_hand : (d : LinkData) (hands : Hands) (goes : Direction) (hand : Option ℕ)
    → IfSome hand (IsNumberOf d goes)
    → IfSome hand (IsNumberOf (record { packets = d.packets; hands = hands }) goes)
sound_hand d hands goes None h = tt
sound_hand d hands goes (Some n) h = record { was_put = h.was_put; goes = h.goes }

each_hand : (P : Lane → Option ℕ → Type 0) (hands : Hands) (lane : Lane) (hand : Option ℕ)
    → P lane hand
    → ((other : Lane) → P other (hand_in hands other))
    → (other : Lane)
    → P other (hand_in (with_hand hands lane hand) other)
each_hand P hands S1 hand new old S1 = new
each_hand P hands S1 hand new old S2 = old S2
each_hand P hands S1 hand new old G1 = old G1
each_hand P hands S1 hand new old G2 = old G2
each_hand P hands S2 hand new old S1 = old S1
each_hand P hands S2 hand new old S2 = new
each_hand P hands S2 hand new old G1 = old G1
each_hand P hands S2 hand new old G2 = old G2
each_hand P hands G1 hand new old S1 = old S1
each_hand P hands G1 hand new old S2 = old S2
each_hand P hands G1 hand new old G1 = new
each_hand P hands G1 hand new old G2 = old G2
each_hand P hands G2 hand new old S1 = old S1
each_hand P hands G2 hand new old S2 = old S2
each_hand P hands G2 hand new old G1 = old G1
each_hand P hands G2 hand new old G2 = new

-- the hands stay sound where one changes to a number of its lane's direction, or is emptied
pub hand_sound : (d : LinkData) (lane : Lane) (hand : Option ℕ)
    → IsSound d
    → IfSome hand (IsNumberOf d (lane_direction lane))
    → IsSound (record { packets = d.packets; hands = with_hand d.hands lane hand })
hand_sound d lane hand sound is other =
    sound_hand d (with_hand d.hands lane hand) (lane_direction other)
    (hand_in (with_hand d.hands lane hand) other)
    (each_hand (λ l h. IfSome h (IsNumberOf d (lane_direction l))) d.hands lane hand is sound other)

put_number : (d : LinkData) (goes : Direction) (tag : Option Name) (octets : List ℕ)
    (lane : Direction) (hand : Option ℕ)
    → IfSome hand (IsNumberOf d lane)
    → IfSome hand (IsNumberOf (after_put d goes tag octets) lane)
put_number d goes tag octets lane None h = tt
put_number d goes tag octets lane (Some n) h =
    let q : LinkPacket = record { direction = goes; tag = tag; octets = octets; held = true } in
    let long = length-append d.packets (q ∷ []) in
    let there : n < length d.packets = h.was_put in
    record {
      was_put = omega (arith, long, there);
      goes = ap (option_map (λ p. p.direction)) (slice_get-push d.packets q n there) ∙ h.goes;
    }

-- they stay sound where a packet is put
pub put_sound : (d : LinkData) (goes : Direction) (tag : Option Name) (octets : List ℕ)
    → IsSound d
    → IsSound (after_put d goes tag octets)
put_sound d goes tag octets sound lane =
    put_number d goes tag octets (lane_direction lane) (hand_of d lane) (sound lane)

lose_number : (d : LinkData) (n : ℕ) (lane : Direction) (hand : Option ℕ)
    → IfSome hand (IsNumberOf d lane)
    → IfSome hand (IsNumberOf (after_lose d n) lane)
lose_number d n lane None h = tt
lose_number d n lane (Some m) h = record {
  was_put = rw length-with_lost h.was_put;
  goes = goes_lost d.packets n m ∙ h.goes;
}

-- and where one is lost
pub lose_sound : (d : LinkData) (n : ℕ) → IsSound d → IsSound (after_lose d n)
lose_sound d n sound lane = lose_number d n (lane_direction lane) (hand_of d lane) (sound lane)
