-- What always holds of a world: its system shows its journal, and the journal is told.
use Rattle.std.specs.Prelude.{List}
use Rattle.lpt_events.specs.declared.config.Config.{Config}
use Rattle.lpt_system.specs.declared.system.System.{System}
use Rattle.lpt_events.specs.declared.entry.Entry.{Entry}
use Rattle.lpt_system.specs.SystemInside.{state_of}
use Rattle.lpt_events.specs.Configs.{IsConfig}
use Rattle.lpt_memory.specs.Memories.{Contents}
use Rattle.lpt_refinement.specs.Shows.{Shows}
use Rattle.lpt_refinement.specs.Views.{views}
use Rattle.lpt_world.specs.Worlds.{IsTold, history_of}

-- under this configuration, over this first content of the memories
pub record IsWorld (c : Config) (first : Contents) (e : System) (j : List Entry) : Type 0 where
  pub configured : IsConfig c
  pub shows : Shows (state_of e) (views c first (history_of c first j))
  pub told : IsTold c first j

-- under the configuration of the system
abbrev pub IsShown : System → Contents → List Entry → Type 0
IsShown e first j = IsWorld e.config first e j
