-- Directions and lanes that are the same are equal.
use Rattle.std.proofs.Common.{◌≡◌, refl, Bool, true, false}
use Rattle.lpt_packet.specs.declared.direction.Direction.{Direction}
use Rattle.lpt_packet.specs.declared.direction.Direction.TheVariants.{Up, Down}
use Rattle.lpt_events.specs.declared.lane.Lane.{Lane}
use Rattle.lpt_events.specs.declared.lane.Lane.TheVariants.{S1, S2, G1, G2}
use Rattle.lpt_events.specs.Lanes.{same_direction, same_lane}

-- a direction is the same as itself
pub same_direction-refl : (a : Direction) → same_direction a a ≡ true
same_direction-refl Up = refl
same_direction-refl Down = refl

-- directions that are the same are equal
pub same_direction-true : (a b : Direction) → same_direction a b ≡ true → a ≡ b
same_direction-true Up Up h = refl
same_direction-true Up Down h = cc
same_direction-true Down Up h = cc
same_direction-true Down Down h = refl

-- lanes that are the same are equal
pub same_lane-true : (a b : Lane) → same_lane a b ≡ true → a ≡ b
same_lane-true S1 S1 h = refl
same_lane-true S2 S2 h = refl
same_lane-true G1 G1 h = refl
same_lane-true G2 G2 h = refl
same_lane-true S1 S2 h = absurd cc
same_lane-true S1 G1 h = absurd cc
same_lane-true S1 G2 h = absurd cc
same_lane-true S2 S1 h = absurd cc
same_lane-true S2 G1 h = absurd cc
same_lane-true S2 G2 h = absurd cc
same_lane-true G1 S1 h = absurd cc
same_lane-true G1 S2 h = absurd cc
same_lane-true G1 G2 h = absurd cc
same_lane-true G2 S1 h = absurd cc
same_lane-true G2 S2 h = absurd cc
same_lane-true G2 G1 h = absurd cc
