-- What the table of a configuration file means.
use Rattle.std.specs.Prelude.{ℕ, if◌then◌else◌, List, [], ◌∷◌, codes, Option, Some, None}
use Rattle.toml.specs.Data.{Members}
use Rattle.lpt_memory.specs.Fields.{◌>>=◌}
use Rattle.lpt_memory.specs.Memories.{Contents}
use Rattle.lpt_part.specs.declared.mode.Mode.TheVariants.{Any}
use Rattle.lpt_events.specs.declared.config.Config.{Config}
use Rattle.lpt_events.specs.declared.turns.Turns.{Turns}
use Rattle.lpt_settings.specs.Keys.{has_only}
use Rattle.lpt_settings.specs.MemoryTables.{memories_of, default_memories}
use Rattle.lpt_settings.specs.Modes.{mode_at}
use Rattle.lpt_settings.specs.Numbers.{number_at}
use Rattle.lpt_events.specs.Counts.{greatest_clock}

-- the keys that there are
abbrev pub known_keys : List (List ℕ)
known_keys = codes "apid" ∷ codes "source" ∷ codes "part_size" ∷ codes "timeout"
    ∷ codes "receptions" ∷ codes "outgoing" ∷ codes "clock" ∷ codes "mode"
    ∷ codes "per_seat" ∷ codes "ticks" ∷ codes "memory" ∷ []

-- the configuration of a table: each number is in its range or absent, and so is the mode
abbrev pub config_of : Members → Option Config
config_of members = do
  apid ← number_at (codes "apid") 0 2046 (Some 100) members
  source ← number_at (codes "source") 0 65535 (Some 1) members
  part_size ← number_at (codes "part_size") 4 1024 (Some 8) members
  timeout ← number_at (codes "timeout") 1 65535 (Some 10) members
  receptions ← number_at (codes "receptions") 1 64 (Some 8) members
  outgoing ← number_at (codes "outgoing") 1 64 (Some 8) members
  clock ← number_at (codes "clock") 0 greatest_clock (Some 0) members
  mode ← mode_at members
  Some (record {
    apid = apid;
    source = source;
    part_size = part_size;
    timeout = timeout;
    receptions = receptions;
    outgoing = outgoing;
    clock = clock;
    mode = mode;
  })

-- how much each seat does in a run of threads, by a table
abbrev pub turns_of : Members → Option Turns
turns_of members = do
  per_seat ← number_at (codes "per_seat") 1 1000000 (Some 100000) members
  ticks ← number_at (codes "ticks") 0 65535 (Some 0) members
  Some (record { per_seat = per_seat; ticks = ticks })

-- all numbers of a table
abbrev pub numbers_of : Members → Option (Config × Turns)
numbers_of members = do
  config ← config_of members
  turns ← turns_of members
  Some (config, turns)

-- the settings of a table: each key is known, and the numbers and the memories can be read
abbrev pub settings_of : Members → Option ((Config × Turns) × Contents)
settings_of members =
    if has_only known_keys members then (do
      numbers ← numbers_of members
      memories ← memories_of members
      Some (numbers, memories))
    else None

-- the configuration if no key is set
abbrev pub default_config : Config
default_config = record {
  apid = 100;
  source = 1;
  part_size = 8;
  timeout = 10;
  receptions = 8;
  outgoing = 8;
  clock = 0;
  mode = Any;
}

-- how much each seat does if no key is set
abbrev pub default_turns : Turns
default_turns = record { per_seat = 100000; ticks = 0 }

-- the settings if no key is set
abbrev pub default_settings : (Config × Turns) × Contents
default_settings = ((default_config, default_turns), default_memories)
