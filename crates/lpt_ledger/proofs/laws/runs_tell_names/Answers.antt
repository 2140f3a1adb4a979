-- What the runs of a ledger tell.
use Rattle.lpt_ledger.proofs.AscendLemmas.{runs_ascend, runs_of-closed_by}
use Rattle.lpt_ledger.proofs.RunsLemmas.{closed_by-runs_of, few_runs}
use Rattle.lpt_ledger.proofs.laws.runs_tell_names.Goals as goal

pub returns-clause-closed : goal.returns-clause-closed
returns-clause-closed c = closed_by-runs_of

pub returns-clause-ascend : goal.returns-clause-ascend
returns-clause-ascend c = runs_ascend

pub returns-clause-only : goal.returns-clause-only
returns-clause-only c = runs_of-closed_by

pub returns-clause-few : goal.returns-clause-few
returns-clause-few c = few_runs
