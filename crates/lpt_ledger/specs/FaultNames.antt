-- The numbers and names of the faults of ledgers.
use Rattle.std.specs.Prelude.{ℕ, List, codes}
use Rattle.lpt_ledger.specs.declared.fault.LedgerFault.{LedgerFault}
use Rattle.lpt_ledger.specs.declared.fault.LedgerFault.TheVariants.{InUse, StillOpen, NotOpen, Memory}

-- the fault's number
abbrev pub code_of : LedgerFault → ℕ
code_of InUse = 31
code_of StillOpen = 32
code_of NotOpen = 33
code_of Memory = 38

-- the fault's name
abbrev pub name_of : LedgerFault → List ℕ
name_of InUse = codes "InUse"
name_of StillOpen = codes "StillOpen"
name_of NotOpen = codes "NotOpen"
name_of Memory = codes "Memory"
