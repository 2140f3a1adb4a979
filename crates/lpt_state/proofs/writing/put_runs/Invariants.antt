-- Of all runs those that were written stand first, and behind them the buffer is as it was.
use Rattle.std.proofs.Common.{◌≡◌, ◌*◌, ◌++◌, List, length, drop}
use Rattle.lpt_ledger.specs.declared.run.NameRun.{NameRun}
use Rattle.lpt_ledger.specs.Runs.{runs_of}
use Rattle.lpt_state.specs.Spellings.{runs_octets}
use Rattle.lpt_state.proofs.writing.put_runs.Given as goal

abbrev pub invariant-loop-run : goal.invariant-loop-run
invariant-loop-run l =
    (seen : List NameRun)
    × (runs_of l.ledger ≡ seen ++ l.run-iterator)
    × (l.count ≡ length seen)
    × (l.out ≡ runs_octets seen ++ drop (6 * length seen) l.fn.out)
