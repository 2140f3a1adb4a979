-- The numbers and names of the faults of the link.
use Rattle.std.specs.Prelude.{ℕ, List, codes}
use Rattle.lpt_link.specs.declared.fault.LinkFault.{LinkFault}
use Rattle.lpt_link.specs.declared.fault.LinkFault.TheVariants.{NotHeld, HandFull, HandEmpty, Memory}

-- the fault's number
abbrev pub code_of : LinkFault → ℕ
code_of NotHeld = 34
code_of HandFull = 35
code_of HandEmpty = 36
code_of Memory = 37

-- the fault's name
abbrev pub name_of : LinkFault → List ℕ
name_of NotHeld = codes "NotHeld"
name_of HandFull = codes "HandFull"
name_of HandEmpty = codes "HandEmpty"
name_of Memory = codes "Memory"
