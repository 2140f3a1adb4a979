-- The names so far are closed, and with those that are left all will be.
use Rattle.std.proofs.Common.{◌≡◌, length}
use Rattle.lpt_ledger.specs.Runs.{closed_by, names_in, shut_names}
use Rattle.lpt_state.specs.Verdicts.{runs_in}
use Rattle.lpt_state.proofs.reading.ledger_closed.Given as goal

abbrev pub invariant-loop-six : goal.invariant-loop-six
invariant-loop-six l = shut_names l.ledger (names_in (runs_in l.left))
    ≡ closed_by (runs_in l.octets)

abbrev pub decreases-loop-six : goal.decreases-loop-six
decreases-loop-six l = length l.left
