-- The numbers and names of the faults of turns and runs.
use Rattle.std.specs.Prelude.{ℕ, List, codes}
use Rattle.lpt_share.specs.declared.fault.ShareFault.{ShareFault}
use Rattle.lpt_share.specs.declared.fault.ShareFault.TheVariants.{Torn, Memory, NoThread}

-- the fault's number
abbrev pub code_of : ShareFault → ℕ
code_of Torn = 61
code_of Memory = 62
code_of NoThread = 63

-- the fault's name
abbrev pub name_of : ShareFault → List ℕ
name_of Torn = codes "Torn"
name_of Memory = codes "Memory"
name_of NoThread = codes "NoThread"
