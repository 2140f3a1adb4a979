-- What was kept was heard first.
use Rattle.lpt_ground_run.proofs.CarriedLemmas.{one-pass}
use Rattle.lpt_ground_run.proofs.laws.kept_runs_are_one_pass.Goals as goal

pub returns : goal.returns
returns c = one-pass
