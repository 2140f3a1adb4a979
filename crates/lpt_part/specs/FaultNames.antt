-- The numbers and names of the faults of bodies.
use Rattle.std.specs.Prelude.{ℕ, List, codes}
use Rattle.lpt_part.specs.declared.fault.PartFault.{PartFault}
use Rattle.lpt_part.specs.declared.fault.PartFault.TheVariants.{ShortPart, Zero, KindNumber, PartLength, AbortBody}

-- the fault's number
abbrev pub code_of : PartFault → ℕ
code_of ShortPart = 20
code_of Zero = 21
code_of KindNumber = 22
code_of PartLength = 23
code_of AbortBody = 24

-- the fault's name
abbrev pub name_of : PartFault → List ℕ
name_of ShortPart = codes "ShortPart"
name_of Zero = codes "Zero"
name_of KindNumber = codes "KindNumber"
name_of PartLength = codes "PartLength"
name_of AbortBody = codes "AbortBody"
