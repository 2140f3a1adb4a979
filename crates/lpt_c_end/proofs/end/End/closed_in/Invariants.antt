-- None of the names so far passes.
use Rattle.std.proofs.Common.{◌≡◌, ◌≤◌, ◌+◌, ◌-◌}
use Rattle.std.specs.List.{find}
use Rattle.lpt_ledger.specs.Runs.{names_of, some_names}
use Rattle.lpt_c_end.specs.Closed.{is_sought}
use Rattle.lpt_c_end.proofs.end.End.closed_in.Given as goal

abbrev pub invariant-loop-id : goal.invariant-loop-id
invariant-loop-id l =
    (l.start ≤ l.id)
    × (find (is_sought l.direction l.fn.from l.self) (names_of l.run)
    ≡ find (is_sought l.direction l.fn.from l.self)
    (some_names (l.run.last + 1 - l.id) l.run.source l.id))
