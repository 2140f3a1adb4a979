-- The names so far are closed, and there are no more of them than the run has.
use Rattle.std.proofs.Common.{◌≡◌, ◌+◌, ◌-◌, ◌≤◌}
use Rattle.lpt_ledger.specs.Runs.{shut_names, some_names}
use Rattle.lpt_ledger.proofs.ledger.Ledger.shut_run.Given as goal

abbrev pub invariant-loop-id : goal.invariant-loop-id
invariant-loop-id l =
    (l.self ≡ shut_names l.initial.self (some_names (l.id - l.run.first) l.run.source l.run.first))
    × (l.id - l.run.first ≤ l.run.last + 1 - l.run.first)
