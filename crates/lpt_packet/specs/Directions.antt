-- The words of the two directions.
use Rattle.std.specs.Prelude.{ℕ, List, codes}
use Rattle.lpt_packet.specs.declared.direction.Direction.{Direction}
use Rattle.lpt_packet.specs.declared.direction.Direction.TheVariants.{Up, Down}

-- the word of a direction
abbrev pub direction_word : Direction → List ℕ
direction_word Up = codes "up"
direction_word Down = codes "down"
