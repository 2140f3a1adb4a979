-- What always holds of the system: each node is of its side, both have the configuration, and ground has no
-- jobs.
use Rattle.std.specs.Prelude.{◌≡◌}
use Rattle.lpt_events.specs.declared.config.Config.{Config}
use Rattle.lpt_events.specs.declared.side.Side.TheVariants.{Ground, Craft}
use Rattle.lpt_jobs.specs.Jobs.{jobs_numbered}
use Rattle.lpt_node.specs.Nodes.{NodeView}
use Rattle.lpt_events.specs.Configs.{IsConfig}

pub record IsSound (c : Config) (on_ground on_craft : NodeView) : Type 0 where
  pub configured : IsConfig c
  pub ground_side : on_ground.side ≡ Ground
  pub ground_config : on_ground.config ≡ c
  pub craft_side : on_craft.side ≡ Craft
  pub craft_config : on_craft.config ≡ c
  pub ground_jobs : jobs_numbered on_ground.at.jobs ≡ 0
