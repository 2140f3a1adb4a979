-- The numbers and names of the faults of messages.
use Rattle.std.specs.Prelude.{ℕ, List, codes}
use Rattle.lpt_pus.specs.declared.fault.PusFault.{PusFault}
use Rattle.lpt_pus.specs.declared.fault.PusFault.TheVariants.{PusVersion, WrongType, ShortHeader, TooLong, Memory}

-- the fault's number
abbrev pub code_of : PusFault → ℕ
code_of PusVersion = 11
code_of WrongType = 12
code_of ShortHeader = 13
code_of TooLong = 14
code_of Memory = 15

-- the fault's name
abbrev pub name_of : PusFault → List ℕ
name_of PusVersion = codes "PusVersion"
name_of WrongType = codes "WrongType"
name_of ShortHeader = codes "ShortHeader"
name_of TooLong = codes "TooLong"
name_of Memory = codes "Memory"
