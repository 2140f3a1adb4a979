-- The hands of the four lanes.
use Rattle.std.specs.Prelude.{ℕ, Option, None}
use Rattle.lpt_events.specs.declared.lane.Lane.{Lane}
use Rattle.lpt_events.specs.declared.lane.Lane.TheVariants.{S1, S2, G1, G2}
use Rattle.lpt_link.specs.declared.hands.Hands.{Hands}

-- four empty hands
abbrev pub no_hands : Hands
no_hands = record { s1 = None; s2 = None; g1 = None; g2 = None }

-- the number of the packet that a lane has in its hand
abbrev pub hand_in : Hands → Lane → Option ℕ
hand_in h S1 = h.s1
hand_in h S2 = h.s2
hand_in h G1 = h.g1
hand_in h G2 = h.g2

-- the hands, with this in the lane's
abbrev pub with_hand : Hands → Lane → Option ℕ → Hands
with_hand h S1 n = record { s1 = n; s2 = h.s2; g1 = h.g1; g2 = h.g2 }
with_hand h S2 n = record { s1 = h.s1; s2 = n; g1 = h.g1; g2 = h.g2 }
with_hand h G1 n = record { s1 = h.s1; s2 = h.s2; g1 = n; g2 = h.g2 }
with_hand h G2 n = record { s1 = h.s1; s2 = h.s2; g1 = h.g1; g2 = n }
