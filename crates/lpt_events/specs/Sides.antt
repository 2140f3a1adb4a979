-- The two ends of the link, and which of them sends and receives in a direction.
use Rattle.std.specs.Prelude.{ℕ, Bool, true, false, List, codes}
use Rattle.lpt_packet.specs.declared.direction.Direction.{Direction}
use Rattle.lpt_packet.specs.declared.direction.Direction.TheVariants.{Up, Down}
use Rattle.lpt_events.specs.declared.side.Side.{Side}
use Rattle.lpt_events.specs.declared.side.Side.TheVariants.{Ground, Craft}

-- whether two sides are the same
abbrev pub same_side : Side → Side → Bool
same_side Ground Ground = true
same_side Ground Craft = false
same_side Craft Ground = false
same_side Craft Craft = true

-- the node that sends in a direction
abbrev pub sender_side : Direction → Side
sender_side Up = Ground
sender_side Down = Craft

-- the node that receives in a direction
abbrev pub receiver_side : Direction → Side
receiver_side Up = Craft
receiver_side Down = Ground

-- the direction in which a side receives
abbrev pub direction_to : Side → Direction
direction_to Ground = Down
direction_to Craft = Up

-- the word of a side
abbrev pub side_word : Side → List ℕ
side_word Ground = codes "ground"
side_word Craft = codes "craft"
