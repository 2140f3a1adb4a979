-- How a mission lays out what goes up and what comes down.
use Rattle.std.specs.Prelude.{ℕ, Option, Some, None, IfSome}
use Rattle.lpt_packet.specs.declared.direction.Direction.{Direction}
use Rattle.lpt_packet.specs.declared.direction.Direction.TheVariants.{Up, Down}
use Rattle.lpt_layout.specs.Own.{own_tm, own_tc, own_parts}
use Rattle.lpt_layout.specs.Parts.{IsPartSizeAs}
use Rattle.lpt_carried.specs.declared.layouts.Layouts.{Layouts}
use Rattle.lpt_carried.specs.declared.layouts.Tailored.{Tailored}

-- the profile's telemetry, of a part size that isn't known
abbrev pub own_telemetry : Tailored
own_telemetry = record { packets = own_tm; time = None; parts = own_parts; part_size = None }

-- and its telecommands
abbrev pub own_telecommands : Tailored
own_telecommands = record { packets = own_tc; time = None; parts = own_parts; part_size = None }

-- the profile
abbrev pub own_layouts : Layouts
own_layouts = record { telemetry = own_telemetry; telecommands = own_telecommands }

-- the same with parts of p octets
abbrev pub own_layouts_of : (p : ℕ) → Layouts
own_layouts_of p = record {
  telemetry = record own_telemetry { part_size = Some p };
  telecommands = record own_telecommands { part_size = Some p };
}

-- what goes in a direction
abbrev pub tailored_in : Direction → Layouts → Tailored
tailored_in Up l = l.telecommands
tailored_in Down l = l.telemetry

-- a part size, if there is one, is 1 to 65,535 octets
abbrev pub SizeIsSize : Option ℕ → Type 0
SizeIsSize size = IfSome size IsPartSizeAs

-- the same of the size of what is tailored
abbrev pub SizeFits : Tailored → Type 0
SizeFits t = SizeIsSize t.part_size

-- and of both
pub record SizesFit (l : Layouts) : Type 0 where
  pub down : SizeFits l.telemetry
  pub up : SizeFits l.telecommands
