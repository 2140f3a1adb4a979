-- What a search keeps.
use Rattle.std.specs.Prelude.{ℕ, List}
use Rattle.lpt_stream.specs.declared.search.Search.{Search}
use Rattle.lpt_stream.specs.Registers.{AreRegisters}

-- it keeps registers of these octets, or none
pub record Knows (s : Search) (octets : List ℕ) : Type 0 where
  pub are : AreRegisters s.passed s.registers.items octets
