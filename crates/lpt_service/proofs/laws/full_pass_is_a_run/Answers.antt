-- The rows say it.
use Rattle.lpt_service.proofs.WorkedRows.{full_leaves, full_makes, full_passes, full_runs}
use Rattle.lpt_service.proofs.laws.full_pass_is_a_run.Goals as goal

pub returns : goal.returns
returns f = record {
  pass = full_passes;
  steps = full_makes;
  run = full_runs;
  left = full_leaves;
}
