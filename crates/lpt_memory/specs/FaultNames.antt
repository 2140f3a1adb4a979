-- The numbers and names of the faults of memories and loads.
use Rattle.std.specs.Prelude.{ℕ, List, codes}
use Rattle.lpt_memory.specs.declared.fault.MemoryFault.{MemoryFault}
use Rattle.lpt_memory.specs.declared.fault.MemoryFault.TheVariants.{BadMemories, TooLong, BadArea, Memory}

-- the fault's number
abbrev pub code_of : MemoryFault → ℕ
code_of BadMemories = 25
code_of TooLong = 27
code_of BadArea = 28
code_of Memory = 29

-- the fault's name
abbrev pub name_of : MemoryFault → List ℕ
name_of BadMemories = codes "BadMemories"
name_of TooLong = codes "TooLong"
name_of BadArea = codes "BadArea"
name_of Memory = codes "Memory"
