-- What is kept while a stream is read.
use Rattle.std.specs.Prelude.{◌≡◌, List}
use Rattle.lpt_stream.specs.Pieces.{Piece}
use Rattle.lpt_compare.specs.declared.checks.CheckTaker.{CheckTaker}
use Rattle.lpt_compare.specs.Read.{AreChecks}

-- what pieces say was kept
pub record IsTaken (first now : CheckTaker) (pieces : List Piece) : Type 0 where
  pub same_layout : now.layout ≡ first.layout
  pub same_apid : now.apid ≡ first.apid
  pub same_memory : now.memory ≡ first.memory
  pub checks_are : AreChecks now.layout now.apid now.memory pieces now.checks
