-- The lanes and their directions.
use Rattle.std.specs.Prelude.{Bool, true, false, List, [], ◌∷◌}
use Rattle.lpt_packet.specs.declared.direction.Direction.{Direction}
use Rattle.lpt_packet.specs.declared.direction.Direction.TheVariants.{Up, Down}
use Rattle.lpt_events.specs.declared.lane.Lane.{Lane}
use Rattle.lpt_events.specs.declared.lane.Lane.TheVariants.{S1, S2, G1, G2}

-- the direction of the packets that a lane takes
abbrev pub lane_direction : Lane → Direction
lane_direction S1 = Up
lane_direction S2 = Up
lane_direction G1 = Down
lane_direction G2 = Down

-- whether two directions are the same
abbrev pub same_direction : Direction → Direction → Bool
same_direction Up Up = true
same_direction Up Down = false
same_direction Down Up = false
same_direction Down Down = true

-- all lanes
abbrev pub lanes : List Lane
lanes = S1 ∷ S2 ∷ G1 ∷ G2 ∷ []

-- whether two lanes are the same
abbrev pub same_lane : Lane → Lane → Bool
same_lane S1 S1 = true
same_lane S2 S2 = true
same_lane G1 G1 = true
same_lane G2 G2 = true
same_lane _ _ = false
