-- None of the names in the runs so far passes.
use Rattle.std.proofs.Common.{◌≡◌}
use Rattle.std.specs.List.{find}
use Rattle.lpt_ledger.specs.Runs.{names_in}
use Rattle.lpt_c_end.specs.Closed.{first_closed, is_sought}
use Rattle.lpt_c_end.proofs.end.End.first_closed.Given as goal

abbrev pub invariant-loop-run : goal.invariant-loop-run
invariant-loop-run l =
    first_closed l.direction l.from l.self
    ≡ find (is_sought l.direction l.from l.self) (names_in l.run-iterator)
