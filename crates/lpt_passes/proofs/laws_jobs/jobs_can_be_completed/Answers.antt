-- The lemma says it, of what the calls are proved to do.
use Rattle.lpt_passes.proofs.Working.{completed-can-be}
use Rattle.lpt_passes.proofs.laws_jobs.jobs_can_be_completed.Goals as goal

pub returns : goal.returns
returns c = completed-can-be c.calls_carry_a_pass.ensures
