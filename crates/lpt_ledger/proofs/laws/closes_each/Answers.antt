-- What all marks show once they are shut.
use Rattle.lpt_ledger.proofs.ClosingLemmas.{get-all_closed, state_at-all_closed}
use Rattle.lpt_ledger.proofs.laws.closes_each.Goals as goal

pub returns-clause-marks : goal.returns-clause-marks
returns-clause-marks c = get-all_closed

pub returns-clause-states : goal.returns-clause-states
returns-clause-states c = state_at-all_closed
