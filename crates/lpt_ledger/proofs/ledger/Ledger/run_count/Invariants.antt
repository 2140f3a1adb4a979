-- Of all runs those that were counted stand first, and their numbers have 16 bits.
use Rattle.std.proofs.Common.{◌≡◌, ◌++◌, List, length}
use Rattle.std.specs.List.{All}
use Rattle.lpt_ledger.specs.declared.run.NameRun.{NameRun}
use Rattle.lpt_ledger.specs.Runs.{runs_of, IsRun}
use Rattle.lpt_ledger.proofs.ledger.Ledger.run_count.Given as goal

abbrev pub invariant-loop-run : goal.invariant-loop-run
invariant-loop-run l =
    (seen : List NameRun)
    × (runs_of l.self ≡ seen ++ l._run-iterator)
    × (l.count ≡ length seen)
    × All IsRun seen
