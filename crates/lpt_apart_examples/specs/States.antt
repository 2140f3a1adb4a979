-- A worked state, and its octets, which were made outside.
use Rattle.std.specs.Prelude.{ℕ, List, [], ◌∷◌}
use Rattle.lpt_events.specs.declared.config.Config.{Config}
use Rattle.lpt_part.specs.declared.mode.Mode.TheVariants.{Any}
use Rattle.lpt_packet.specs.Names.{Name, named_by}
use Rattle.lpt_state.specs.Lastings.{Lasting}

-- the configuration
abbrev pub config : Config
config = record {
  apid = 42;
  source = 1;
  part_size = 8;
  timeout = 50;
  receptions = 8;
  outgoing = 4;
  clock = 100;
  mode = Any;
}

-- what outlasts
abbrev pub mixed_state : Lasting
mixed_state = record {
  boot = 258;
  clock = 16909060;
  sent =
      record { source = 1; first = 0; last = 3 }
      ∷ record { source = 1; first = 5; last = 5 }
      ∷ record { source = 1; first = 65535; last = 65535 }
      ∷ record { source = 2; first = 0; last = 0 }
      ∷ [];
  received = record { source = 1; first = 62; last = 64 } ∷ [];
}

-- the names of outgoing transactions that are in use
abbrev pub names_sent : List Name
names_sent =
    named_by 1 0 ∷ named_by 1 1 ∷ named_by 1 2 ∷ named_by 1 3 ∷ named_by 1 5 ∷ named_by 1 65535
    ∷ named_by 2 0 ∷ []

-- its octets
abbrev pub mixed_octets : List ℕ
mixed_octets =
    76 ∷ 80 ∷ 84 ∷ 83 ∷ 2 ∷ 0 ∷ 0 ∷ 42 ∷ 0 ∷ 1 ∷ 0 ∷ 0 ∷ 0 ∷ 8 ∷ 0 ∷ 0 ∷ 0 ∷ 0 ∷ 0 ∷ 0 ∷ 0 ∷ 1 ∷ 2
    ∷ 1 ∷ 2 ∷ 3 ∷ 4 ∷ 0 ∷ 0 ∷ 0 ∷ 0 ∷ 0 ∷ 0 ∷ 0 ∷ 4 ∷ 0 ∷ 0 ∷ 0 ∷ 0 ∷ 0 ∷ 0 ∷ 0 ∷ 1 ∷ 0 ∷ 1 ∷ 0
    ∷ 0 ∷ 0 ∷ 3 ∷ 0 ∷ 1 ∷ 0 ∷ 5 ∷ 0 ∷ 5 ∷ 0 ∷ 1 ∷ 255 ∷ 255 ∷ 255 ∷ 255 ∷ 0 ∷ 2 ∷ 0 ∷ 0 ∷ 0 ∷ 0
    ∷ 0 ∷ 1 ∷ 0 ∷ 62 ∷ 0 ∷ 64 ∷ 210 ∷ 101 ∷ []
