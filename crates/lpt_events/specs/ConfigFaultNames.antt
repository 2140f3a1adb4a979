-- The numbers and names of the faults of configurations.
use Rattle.std.specs.Prelude.{ℕ, List, codes}
use Rattle.lpt_events.specs.declared.config_fault.ConfigFault.{ConfigFault}
use Rattle.lpt_events.specs.declared.config_fault.ConfigFault.TheVariants.{Apid, PartSize, Timeout, Receptions, Outgoing, Memory}

-- the fault's number
abbrev pub code_of : ConfigFault → ℕ
code_of Apid = 71
code_of PartSize = 72
code_of Timeout = 73
code_of Receptions = 74
code_of Outgoing = 75
code_of Memory = 76

-- the fault's name
abbrev pub name_of : ConfigFault → List ℕ
name_of Apid = codes "Apid"
name_of PartSize = codes "PartSize"
name_of Timeout = codes "Timeout"
name_of Receptions = codes "Receptions"
name_of Outgoing = codes "Outgoing"
name_of Memory = codes "Memory"
