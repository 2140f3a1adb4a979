-- The ranges of a configuration, and the first that one leaves.
use Rattle.std.specs.Prelude.{◌≡◌, nat_lt, ◌==◌, ◌||◌, if◌then◌else◌, ◌≤◌, ◌<◌, ◌^◌, Option, Some, None}
use Rattle.lpt_part.specs.Splitting.{IsPartSize}
use Rattle.lpt_events.specs.declared.config.Config.{Config}
use Rattle.lpt_events.specs.declared.config_fault.ConfigFault.{ConfigFault}
use Rattle.lpt_events.specs.declared.config_fault.ConfigFault.TheVariants as configured

-- the configuration's numbers are in their ranges
pub record IsConfig (c : Config) : Type 0 where
  pub apid_fits : c.apid ≤ 2046
  pub source_fits : c.source < 65536
  pub part_size_fits : IsPartSize c.part_size
  pub some_timeout : 1 ≤ c.timeout
  pub timeout_fits : c.timeout ≤ 65535
  pub some_receptions : 1 ≤ c.receptions
  pub receptions_fit : c.receptions ≤ 64
  pub some_outgoing : 1 ≤ c.outgoing
  pub outgoing_fits : c.outgoing ≤ 64
  pub clock_fits : c.clock < 2 ^ 32

-- the first range that a configuration leaves
abbrev pub config_fault : Config → Option ConfigFault
config_fault c =
    if nat_lt 2046 c.apid then Some configured.Apid
    else if nat_lt c.part_size 4 || nat_lt 1024 c.part_size then Some configured.PartSize
    else if (c.timeout == 0) || nat_lt 65535 c.timeout then Some configured.Timeout
    else if (c.receptions == 0) || nat_lt 64 c.receptions then Some configured.Receptions
    else if (c.outgoing == 0) || nat_lt 64 c.outgoing then Some configured.Outgoing
    else None

-- the fault is the first range that is left, or out of memory if none is
abbrev pub ConfigRefusedBy : Option ConfigFault → ConfigFault → Type 0
ConfigRefusedBy (Some first) fault = fault ≡ first
ConfigRefusedBy None fault = fault ≡ configured.Memory
