-- Two nodes and a network between them, as two ends apart.
use Rattle.std.specs.Prelude.{◌≡◌, ℕ, Bool, true, false, List, Some}
use Rattle.lpt_packet.specs.declared.direction.Direction.TheVariants.{Up}
use Rattle.lpt_packet.specs.Names.{Name, same_name}
use Rattle.lpt_events.specs.Configs.{IsConfig}
use Rattle.lpt_events.specs.declared.config.Config.{Config}
use Rattle.lpt_events.specs.declared.outcome.Outcome.{Outcome}
use Rattle.lpt_events.specs.declared.outcome.Outcome.TheVariants.{Released, Broken}
use Rattle.lpt_events.specs.declared.side.Side.TheVariants.{Ground, Craft}
use Rattle.lpt_memory.specs.Memories.{Contents}
use Rattle.lpt_node.specs.Accepting.{packet_accepted}
use Rattle.lpt_node.specs.declared.accepted.Accepted.{Accepted}
use Rattle.lpt_node.specs.Nodes.{NodeView}
use Rattle.lpt_node.specs.ParsedViews.{arrival_at}
use Rattle.lpt_apart.specs.Ends.{Move}
use Rattle.lpt_apart.specs.TwoEnds.{message_awaited, IsOnTheWay}
use Rattle.lpt_apart.specs.Moves.{came_to, CanMoveAll}

-- Moves led to these two nodes, and what may come out of the network going up is on the way.
pub record Stands (g k : NodeView) (may_come : List ℕ → Type 0) : Type 0 where
  pub config : Config
  pub first : Contents
  pub moves : List Move
  pub good : IsConfig config
  pub can : CanMoveAll config first moves
  pub ground_side : g.side ≡ Ground
  pub ground_config : g.config ≡ config
  pub ground_at : g.at ≡ (came_to config first moves).ends.on_ground
  pub craft_side : k.side ≡ Craft
  pub craft_config : k.config ≡ config
  pub craft_at : k.at ≡ (came_to config first moves).ends.on_craft
  pub on_the_way : (b : List ℕ) → may_come b
      → IsOnTheWay (came_to config first moves).ends Up b

-- The same, and the spacecraft awaits this message, which was opened last under its name.
pub record Carries (name : Name) (message : List ℕ) (g k : NodeView)
    (may_come : List ℕ → Type 0) : Type 0 where
  pub stands : Stands g k may_come
  pub awaits : message_awaited (came_to stands.config stands.first stands.moves).ends.log Up name
      ≡ Some message

-- whether an outcome says that the message of a name was released
abbrev pub is_whole : Name → Outcome → Bool
is_whole name (Released n len) = same_name n name
is_whole name _ = false

-- whether an outcome says that the reception of a name was broken off
abbrev pub is_broken : Name → Outcome → Bool
is_broken name (Broken n reason) = same_name n name
is_broken name _ = false

-- the last packet that the spacecraft's node took released this message of this name
pub record HasReleased (name : Name) (message : List ℕ) (k : NodeView) : Type 0 where
  pub before : NodeView
  pub packet : List ℕ
  pub answer : Accepted
  pub took : (k.at, answer) ≡ packet_accepted before.side before.config before.at
      (arrival_at before packet)
  pub of_name : is_whole name answer.outcome ≡ true
  pub released : answer.released ≡ Some message
